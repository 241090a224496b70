-- Stored records with their data in fields.
use Rattle.std.specs.Prelude.{◌≡◌, List, ℕ, None}
use Rattle.dns_message.specs.HeaderRecord.{RecordOf}
use Rattle.dns_rdata.specs.Fields.{IsRow, IsData, kinds_of}
use Rattle.dns_rdata.specs.Data.{Data, typed, unknown_data}
use Rattle.dns_rdata.specs.ZoneData.{data_of}
use Rattle.dns_rdata.specs.declared.zone_record_data.ZoneRecordData.{ZoneRecordData}
use Rattle.zone_records.specs.Record.{Record}

-- a record whose data is that of its type
abbrev pub HasLawfulData : Record → Type 0
HasLawfulData r = IsData r.rtype r.rdata

-- data is in fields exactly if its type has some, and is else unknown data (RFC 3597 4)
abbrev pub HasFieldsOfType : Data → Type 0
HasFieldsOfType (typed number row) = IsRow number row
HasFieldsOfType (unknown_data unknown) = kinds_of unknown.number ≡ None

-- the record that a value's view shows
abbrev pub seen_of : {Octs N : Type 0} → RecordOf (List (List ℕ)) (ZoneRecordData Octs N) → RecordOf (List (List ℕ)) Data
seen_of rr = record { owner = rr.owner; class = rr.class; ttl = rr.ttl; rdata = data_of rr.rdata }
