-- Reading a zone's text record by record.
use Rattle.std.proofs.Common.{◌≡◌, ◌≢◌, ◌+◌, ◌<◌, ◌≤◌, ◌^◌, ◌++◌, ◌∙◌, ℕ, Bool, false, List, [], ◌∷◌, Option, Some, None, Ok, length, refl, sym, ap, subst, arith, append_assoc}
use Rattle.std.specs.Prelude.{Result, IfSome}
use Rattle.std.specs.Int.{to_be_bytes, w16}
use Rattle.std.specs.List.{AllByRecursion, flat_map, push}
use Rattle.dns_label.specs.Name.{IsName, wire}
use Rattle.dns_label.specs.Octets.{AreOctets}
use Rattle.dns_text.specs.Rows.{BeginsWithRows, TokenRow}
use Rattle.dns_entry_scanner.proofs.Rows.{row_shorter}
use Rattle.dns_header.specs.Head.{after_length, fixed_octets}
use Rattle.dns_header.specs.Record.{RecordOf}
use Rattle.dns_rdata.specs.Data.{Data, typed, unknown_data, is_unknown, number_of}
use Rattle.dns_rdata.specs.DataOctets.{data_octets}
use Rattle.dns_rdata.specs.Fields as fields
use Rattle.dns_rdata.specs.Fields.{IsData}
use Rattle.zone_records.specs.Held.{record_of}
use Rattle.zone_records.specs.MessageRecord.{IsRecord, record_octets}
use Rattle.dns_entry_scanner.specs.declared.entry_error.EntryError.{EntryError}
use Rattle.dns_zonefile.proofs.Going.{goes-nowhere}
use Rattle.dns_zonefile.specs.Composed.{HandsOn, IsHeld}
use Rattle.dns_zonefile.specs.Entries.{AreEntries}
use Rattle.dns_zonefile.specs.Entry.{Context, Entry}
use Rattle.dns_zonefile.specs.Entry.Entry.{Directive, Include, Resource}
use Rattle.dns_zonefile.specs.Reader.{Gives, GoesOver, Reader, left_of}
use Rattle.dns_zonefile.specs.declared.entry.ComposedEntry.{ComposedEntry}
use Rattle.dns_zonefile.specs.declared.entry.ComposedEntry.TheVariants as composed
use Rattle.zone_records.specs.Record.{Record}
use Rattle.zone_records.specs.Records.{AreRecordsOf, IsRecordOf}
use Rattle.zone_records.specs.Stored.{AreStored}
use Rattle.zone_records.specs.Zone.{IsBehindSoa, IsUnder, IsZone, IsZoneFront, any_class}
use Rattle.zone_records.proofs.Each.{all_append, all_fronts, wire_back}
use Rattle.zone.specs.ZoneText.{IsWellTyped, IsZoneFault, IsZoneText, MayFollow, records_in}
use Rattle.zone.specs.declared.zone_error.ZoneError.{ZoneError}
use Rattle.zone.specs.declared.zone_error.ZoneError.TheVariants as zone_error
use Rattle.zone.proofs.KeptContexts.{IsFitting, IsRowed, entries_fit, entries_named}
use Rattle.zone.proofs.KeptRules.{keeps_directives, keeps_none, records_behind}
use Rattle.zone.proofs.RecordClasses.{zone_text_class}
use Rattle.zone.proofs.ReaderSteps.{HasKept, MeetsRecord, ended_behind, first_fault, kept_record, meets, out_fault, second_fault, unspellable_fault, untyped_fault, zone_text}
use Rattle.zone.specs.Reading.{BeginWith, BreaksRule, HasRead, IsCheckFault, AppendsRecord, MayStandUnder, StandsLast, apex_in, reader_at}

-- in the words of the rules
pub kept_of : {text : List ℕ} {origin : Option (List (List ℕ))} {class : ℕ} {reader : Reader} {records : List Record}
    → HasRead text origin class reader records → HasKept text origin class records reader
kept_of read = record {
  class_known = read.class_known;
  entries = read.entries;
  read = record { goes = read.goes };
  keep = read.keep;
  are = read.are;
}

pub front_read : {text : List ℕ} {origin : Option (List (List ℕ))} {class : ℕ} {reader : Reader} {records : List Record}
    → HasRead text origin class reader records → IsZoneFront records
front_read read = subst (λ (rs : List Record). IsZoneFront rs) (sym read.are) read.keep.front

pub record_handed : {old new : List ℕ} {told : Bool} {given : Result (Option Entry) EntryError} {result : Result (Option ComposedEntry) EntryError}
    → result ≡ Ok (Some (composed.Record told)) → HandsOn old given result new → AppendsRecord old told given new
record_handed {told = told} same (HandsOn.resource {rr = rr} held whole) =
    let alike : is_unknown rr.rdata ≡ told = cc in
    record { rr = rr; is = refl; held = held; octets = whole; unknown_is = sym alike }
record_handed same HandsOn.include = absurd cc
record_handed same HandsOn.ended = absurd cc
record_handed same HandsOn.refused = absurd cc

pub record_is : (rr : RecordOf (List (List ℕ)) Data) → IsHeld rr → IsRecord (record_of rr)
record_is rr held = record { owner = held.owner; rtype = held.rtype; class = held.class; ttl = held.ttl; rdata = held.rdata }

-- the data of a record that is read
fitting_last : (entries : List Entry) (entry : Entry) → AllByRecursion IsFitting (entries ++ entry ∷ []) → IsFitting entry
fitting_last [] entry each = each.0
fitting_last (first ∷ entries) entry each = fitting_last entries entry each.1

rowed_data : (rdata : Data) → is_unknown rdata ≡ false → IsRowed rdata → IsData (number_of rdata) (data_octets rdata)
rowed_data (typed number row) same is = fields.typed row is refl
rowed_data (unknown_data unknown) same is = absurd cc

-- the record that the text goes on with
pub record_met : {text : List ℕ} {origin : Option (List (List ℕ))} {class number : ℕ} {reader new : Reader} {records : List Record}
    {given : Result (Option Entry) EntryError} {rr : RecordOf (List (List ℕ)) Data} → HasRead text origin class reader records
    → Gives reader given new → given ≡ Ok (Some (Resource rr)) → number ≡ new.count
    → MeetsRecord text origin class number records (record_of rr) new
record_met {reader = reader} {new = new} {rr = rr} read gives is counted = record {
  rr = rr;
  meets = meets (kept_of read) (subst (λ g. Gives reader g new) is gives) counted;
  is = refl;
}

-- the data of a record that a reader returns
given_rowed : {reader new : Reader} {given : Result (Option Entry) EntryError} {rr : RecordOf (List (List ℕ)) Data}
    → IfSome reader.context.origin IsName → given ≡ Ok (Some (Resource rr)) → Gives reader given new → IsRowed rr.rdata
given_rowed {rr = rr} named same (Gives.given directives {entry = entry} are other goes) =
    let is : entry ≡ Resource rr = cc in
    subst IsFitting is (fitting_last directives entry (entries_fit named goes.are))
given_rowed named same (Gives.ended are goes ends) = absurd cc
given_rowed named same (Gives.refused are goes at real) = absurd cc
given_rowed named same (Gives.out_of_memory are goes memory) = absurd cc

-- is that of its type, if the text does not write it in the form of unknown data
pub data_given : {reader new : Reader} {old after : List ℕ} {told : Bool} {given : Result (Option Entry) EntryError}
    → IfSome reader.context.origin IsName → Gives reader given new → (handed : AppendsRecord old told given after) → told ≡ false
    → IsData (record_of handed.rr).rtype (record_of handed.rr).rdata
data_given named gives handed bare =
    rowed_data handed.rr.rdata (sym handed.unknown_is ∙ bare) (given_rowed named handed.is gives)

-- the same of a text whose entries before it keep the rules
pub data_met : {text : List ℕ} {origin : Option (List (List ℕ))} {class : ℕ} {reader new : Reader} {records : List Record} {old after : List ℕ}
    {told : Bool} {given : Result (Option Entry) EntryError} → HasRead text origin class reader records → Gives reader given new
    → (handed : AppendsRecord old told given after) → told ≡ false → IsData (record_of handed.rr).rtype (record_of handed.rr).rdata
data_met read gives handed bare = data_given (entries_named read.named read.goes.are) gives handed bare

-- a record that may be there may follow the others
pub follows : (records : List Record) (apex : Option (List (List ℕ))) (r : Record) → apex ≡ apex_in records → IsZoneFront records
    → MayStandUnder apex r → MayFollow records r
follows [] None r same front may = (may, tt)
follows [] (Some apex) r same front may = absurd cc
follows (soa ∷ others) None r same front may = absurd cc
follows (soa ∷ others) (Some apex) r same front may =
    let alike : apex ≡ soa.owner = cc in
    let under : IsBehindSoa soa r = record { no_soa = may.0; under = subst (λ a. IsUnder a r.owner) alike may.1 } in
    (front.0, all_append (IsBehindSoa soa) others (r ∷ []) front.1 (under, tt))

-- a broken rule is a fault of the checks
pub check_fault : (unknown : Bool) (number : ℕ) (apex : Option (List (List ℕ))) (r : Record) (error : ZoneError)
    → BreaksRule number apex r error → IsCheckFault unknown number apex r error
check_fault unknown number apex r zone_error.OutOfMemory broken = absurd broken
check_fault unknown number apex r error broken = broken

-- and a fault of the checks is the text's
pub breaks : {text : List ℕ} {origin : Option (List (List ℕ))} {class number : ℕ} {new : Reader} (unknown : Bool) (records : List Record)
    (apex : Option (List (List ℕ))) (r : Record) (error : ZoneError) → class ≢ any_class → apex ≡ apex_in records → IsZoneFront records
    → MeetsRecord text origin class number records r new → IsCheckFault unknown number apex r error → IsZoneFault text origin class error
breaks {text} {origin} {class} unknown records apex r (zone_error.Untyped n) known same front met broken =
    subst (λ m. IsZoneFault text origin class (zone_error.Untyped m)) (sym broken.0) (untyped_fault met broken.1)
breaks {text} {origin} {class} unknown [] None r (zone_error.FirstNotSoa n) known same front met broken =
    subst (λ m. IsZoneFault text origin class (zone_error.FirstNotSoa m)) (sym broken.0) (first_fault met broken.1 refl broken.2)
breaks {text} {origin} {class} unknown (soa ∷ others) (Some apex) r (zone_error.SecondSoa n) known same front met broken =
    subst (λ m. IsZoneFault text origin class (zone_error.SecondSoa m)) (sym broken.0) (second_fault soa others met broken.1 refl broken.2)
breaks {text} {origin} {class} unknown (soa ∷ others) (Some apex) r (zone_error.OutOfZone n) known same front met broken =
    let alike : apex ≡ soa.owner = cc in
    subst (λ m. IsZoneFault text origin class (zone_error.OutOfZone m)) (sym broken.0)
    (out_fault soa others met broken.1 refl broken.2 (λ under. broken.3 (subst (λ a. IsUnder a r.owner) (sym alike) under)))
breaks {text} {origin} {class} unknown records apex r (zone_error.Unspellable n) known same front met broken =
    subst (λ m. IsZoneFault text origin class (zone_error.Unspellable m)) (sym broken.0)
    (unspellable_fault met broken.1 (follows records apex r same front broken.2) broken.3)
breaks unknown records apex r zone_error.OutOfMemory known same front met broken = known
breaks unknown [] (Some apex) r error known same front met broken = absurd cc
breaks unknown (soa ∷ others) None r error known same front met broken = absurd cc
breaks unknown records apex r zone_error.ClassAny known same front met broken = absurd broken
breaks unknown records apex r (zone_error.Text n) known same front met broken = absurd broken
breaks unknown records apex r (zone_error.Include n) known same front met broken = absurd broken
breaks unknown [] None r (zone_error.SecondSoa n) known same front met broken = absurd broken
breaks unknown [] None r (zone_error.OutOfZone n) known same front met broken = absurd broken
breaks unknown (soa ∷ others) (Some apex) r (zone_error.FirstNotSoa n) known same front met broken = absurd broken
breaks unknown records apex r zone_error.NoSoa known same front met broken = absurd broken

-- one record more
pub more_read : {text : List ℕ} {origin : Option (List (List ℕ))} {class number : ℕ} {reader new : Reader} {records : List Record} {r : Record}
    → HasRead text origin class reader records → MeetsRecord text origin class number records r new → IsWellTyped r → MayFollow records r
    → HasRead text origin class new (push records r)
more_read read met well may =
    let kept = kept_record met well may in record {
      class_known = read.class_known;
      named = read.named;
      entries = kept.entries;
      goes = kept.read.goes;
      keep = kept.keep;
      are = kept.are;
    }

-- as many records as entries at most
records_few : (entries : List Entry) → length (records_in entries) ≤ length entries
records_few [] = omega arith
records_few (Resource rr ∷ entries) = omega (arith, records_few entries)
records_few (Include path origin ∷ entries) = omega (arith, records_few entries)
records_few (Directive ∷ entries) = omega (arith, records_few entries)

-- so one more than the records is a number that a reader counts
pub few_met : {text : List ℕ} {origin : Option (List (List ℕ))} {class number : ℕ} {records : List Record} {r : Record} {new : Reader}
    → MeetsRecord text origin class number records r new → length records + 1 ≤ number
few_met {records = records} met =
    let same = ap (length {A = Record}) met.meets.are in
    let counted = met.meets.reaches.counted in omega (arith, same, counted, records_few met.meets.before)

-- the record that is read, after those octets
pub stands_last : {old new : List ℕ} {told : Bool} {given : Result (Option Entry) EntryError} (apex : Option (List (List ℕ))) (place : ℕ) (seen : List ℕ)
    → BeginWith apex old → (handed : AppendsRecord old told given new) → place ≡ length old → seen ≡ new
    → StandsLast seen place apex (record_of handed.rr)
stands_last {old} apex place seen begin handed at same = record {
  before = old;
  whole = same ∙ handed.octets;
  at = at;
  begin = begin;
  is = record_is handed.rr handed.held;
}

-- rows with tokens make the text shorter
rows_shorter : {text rest : List ℕ} {row : TokenRow} {rows : List TokenRow} → BeginsWithRows text (row ∷ rows) rest → length rest < length text
rows_shorter (BeginsWithRows.more row BeginsWithRows.none) = row_shorter row
rows_shorter (BeginsWithRows.more row (BeginsWithRows.more next others)) =
    omega (arith, row_shorter row, rows_shorter (BeginsWithRows.more next others))

some_rows : {context after : Context} {rows : List TokenRow} {entries : List Entry} → AreEntries context rows entries after → entries ≢ []
    → (row : TokenRow) × (others : List TokenRow) × (rows ≡ row ∷ others)
some_rows AreEntries.none some = absurd (some refl)
some_rows (AreEntries.bare {blank_led = blank_led} {rows = rows} are) some = (record { blank_led = blank_led; tokens = [] }, rows, refl)
some_rows (AreEntries.entry {row = row} {rows = rows} is are) some = (row, rows, refl)

some_entries : (entries : List Entry) (entry : Entry) → entries ++ entry ∷ [] ≢ []
some_entries [] entry none = absurd cc
some_entries (first ∷ entries) entry none = absurd cc

pub shorter_read : {reader new : Reader} {entry : Entry} {given : Result (Option Entry) EntryError} → given ≡ Ok (Some entry) → Gives reader given new
    → length (left_of new) < length (left_of reader)
shorter_read {reader} {new} same (Gives.given directives {entry = entry} are other goes) =
    let some = some_rows goes.are (some_entries directives entry) in
    rows_shorter (subst (λ rows. BeginsWithRows (left_of reader) rows (left_of new)) some.2 goes.begins)
shorter_read same (Gives.ended are goes ends) = absurd cc
shorter_read same (Gives.refused are goes at real) = absurd cc
shorter_read same (Gives.out_of_memory are goes memory) = absurd cc

each_known : (class : ℕ) (records : List Record) → AllByRecursion IsRecord records → AllByRecursion IsWellTyped records
    → AllByRecursion (λ (r : Record). r.class ≡ class) records → AreOctets (flat_map record_octets records)
    → AllByRecursion (IsRecordOf class) records
each_known class [] lawful well classes octets_are = tt
each_known class (r ∷ records) lawful well classes octets_are =
    let P : ℕ → Type 0 = λ octet. octet < 2 ^ 8 in
    let both = all_fronts P (record_octets r) (flat_map record_octets records) octets_are in
    let owner = all_fronts P (wire r.owner) _ (subst AreOctets (append_assoc (wire r.owner) (fixed_octets r.rtype r.class r.ttl) (after_length r.rdata)) both.0) in
    let behind = all_fronts P (fixed_octets r.rtype r.class r.ttl) (after_length r.rdata) owner.1 in
    let rdata = all_fronts P (to_be_bytes w16 (length r.rdata)) r.rdata behind.1 in (
      record {
        sendable = record { lawful = lawful.0; data_is = well.0.data_is; class_is = classes.0; spellable = well.0.spellable };
        owner_octets = wire_back r.owner owner.0;
        data_octets = rdata.1;
      },
      each_known class records lawful.1 well.1 classes.1 both.1,
    )

record_some : (r : Record) (rest : List ℕ) → record_octets r ++ rest ≢ []
record_some r rest = owner_some r.owner
  where
    owner_some : (owner : List (List ℕ)) → record_octets (record r { owner = owner }) ++ rest ≢ []
    owner_some [] none = absurd cc
    owner_some (label ∷ owner) none = absurd cc

length_none : (octets : List ℕ) → length octets ≡ 0 → octets ≡ []
length_none [] none = refl
length_none (octet ∷ octets) none = absurd (omega (arith, none))

zone_front : (records : List Record) (octets : List ℕ) → IsZoneFront records → BeginWith (apex_in records) octets → 0 < length octets
    → IsZone records
zone_front [] octets front begin some = let none = ap (length {A = ℕ}) begin in absurd (omega (arith, some, none))
zone_front (soa ∷ others) octets front begin some = front

none_front : (records : List Record) (octets : List ℕ) → BeginWith (apex_in records) octets → length octets ≡ 0 → records ≡ []
none_front [] octets begin none = refl
none_front (soa ∷ others) octets begin none = absurd (record_some begin.0 begin.1 (sym begin.3 ∙ length_none octets none))

-- the text ends after some records
pub zone_read : {text : List ℕ} {origin : Option (List (List ℕ))} {class : ℕ} {reader new : Reader} {records : List Record} (octets : List ℕ)
    → HasRead text origin class reader records → Gives reader (Ok None) new → BeginWith (apex_in records) octets → 0 < length octets
    → IsZoneText text origin class records
zone_read {records = records} octets read gives begin some =
    zone_text (kept_of read) gives (zone_front records octets (front_read read) begin some)

-- or without one
pub no_record_read : {text : List ℕ} {origin : Option (List (List ℕ))} {class : ℕ} {reader new : Reader} {records : List Record} (octets : List ℕ)
    → HasRead text origin class reader records → Gives reader (Ok None) new → BeginWith (apex_in records) octets → length octets ≡ 0
    → IsZoneFault text origin class zone_error.NoSoa
no_record_read {records = records} octets read gives begin none =
    let ended = ended_behind (record { goes = read.goes }) gives in record {
      class_known = read.class_known;
      entries = read.entries ++ ended.0;
      has = ended.2;
      keep = keeps_directives ended.0 read.keep ended.1;
      none = records_behind read.entries ended.0 ended.1 ∙ sym read.are ∙ none_front records octets begin none;
    }

-- the records of a zone's text, if their octets are octets
pub records_known : {text : List ℕ} {origin : Option (List (List ℕ))} {class : ℕ} {records : List Record} {octets places : List ℕ}
    → IsZoneText text origin class records → AreStored octets places records → AreOctets octets → AreRecordsOf class records
records_known {class = class} {records = records} zone stored octets_are = record {
  each = each_known class records stored.each (subst (λ (rs : List Record). AllByRecursion IsWellTyped rs) (sym zone.are) zone.keep.each)
      (zone_text_class zone) (subst AreOctets stored.whole octets_are);
  zone = zone.zone;
}

-- nothing is read at first
pub nothing_read : {text : List ℕ} {origin : Option (List (List ℕ))} {class : ℕ} {reader : Reader} → class ≢ any_class → IfSome origin IsName
    → reader ≡ reader_at text origin class → HasRead text origin class reader []
nothing_read {text} {origin} {class} known named at = record {
  class_known = known;
  named = named;
  entries = [];
  goes = subst (λ r. GoesOver (reader_at text origin class) [] r) (sym at) (goes-nowhere (reader_at text origin class));
  keep = keeps_none;
  are = refl;
}
