-- What is parsed at a place of a message is the record there.
use Rattle.std.proofs.Common.{ℕ, List, sym, subst}
use Rattle.dns_octets.specs.Parser.{octets_of, place_of}
use Rattle.dns_header.specs.Head.{NoWhole}
use Rattle.dns_header.specs.ParsedRecord.{Parsed, HoldsRecord, IsRecordOf, HasNoData}
use Rattle.dns_header.specs.Record.{RecordOf}
use Rattle.dns_rdata.specs.Data.{ReadsData}
use Rattle.dns_rdata.specs.ZoneData.{data_of}
use Rattle.dns_rdata.specs.declared.zone_record_data.ZoneRecordData.{ZoneRecordData}
use Rattle.dns_message.specs.Held.{record_of}
use Rattle.dns_message.specs.Record.{ReadsRecord}
use Rattle.dns_message.proofs.HeldRecords.{item_taken, item_read, read_taken, taken_read}
use Rattle.zone_records.specs.Record.{Record}
use Rattle.zone_records.specs.Records.{AreOctets}
use Rattle.zone_records.specs.Typed.{seen_of}
use Rattle.zone_records.proofs.ReadData.{value_of_read}

-- if nothing is parsed, no record is there
pub none_whole : (message : List ℕ) (place : ℕ) → NoWhole message place → (r : Record) (next : ℕ) → ReadsRecord message place r next → ⊥
none_whole message place none r next reads =
    let it = read_taken r reads in none it.taken.head it.taken.data_place next it.taken.whole

module _ {Octs N : Type 0} where
  abbrev reads_value : List ℕ → ℕ → ℕ → ZoneRecordData Octs N → Type 0
  reads_value octets place number value = ReadsData octets place number (data_of value)

  -- what is parsed
  pub parsed_read : (message : List ℕ) (place next : ℕ) (item : Parsed) (rr : RecordOf (List (List ℕ)) (ZoneRecordData Octs N))
      → AreOctets message → HoldsRecord message place item next → IsRecordOf reads_value item rr
      → ReadsRecord message place (record_of (seen_of rr)) next
  parsed_read message place next item rr each holds is =
      let read : IsRecordOf ReadsData item (seen_of rr) =
      record { owner = is.owner; class = is.class; ttl = is.ttl; rdata = is.rdata } in
      taken_read (seen_of rr) each (item_taken holds read)

  -- if the data is not lawful for its type, no record is there
  pub none_parsed : (message : List ℕ) (place end : ℕ) (item : Parsed) → HoldsRecord message place item end → HasNoData reads_value item
      → (r : Record) (next : ℕ) → ReadsRecord message place r next → ⊥
  none_parsed message place end item holds none r next reads =
      let it = item_read r reads holds in
      let octets : List ℕ = octets_of item.rdata in
      let at : ℕ = place_of item.rdata in
      let value = value_of_read Octs N octets at item.head.rtype it.rr.rdata it.read.rdata in
      none value.0 (subst (ReadsData octets at item.head.rtype) (sym value.1) it.read.rdata)
