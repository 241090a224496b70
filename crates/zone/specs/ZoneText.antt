-- Which text is a zone's (RFC 1035 5), and which rule another text breaks first.
use Rattle.std.specs.Prelude.{◌≡◌, ◌≢◌, ℕ, Option, Some, List, [], ◌∷◌, ⊤}
use Rattle.std.specs.List.{AllByRecursion, push}
use Rattle.dns_text.specs.Rows.{BeginsWithRows, TokenRow}
use Rattle.dns_header.specs.Record.{RecordOf}
use Rattle.dns_rdata.specs.Data.{Data}
use Rattle.dns_rdata.specs.DataOctets.{IsSpellable}
use Rattle.dns_rdata.specs.Fields.{IsData}
use Rattle.zone_records.specs.Held.{record_of}
use Rattle.dns_zonefile.specs.Entries.{AreEntries, HasEntries, IsRefusedAfter, refused_number}
use Rattle.dns_zonefile.specs.Entry.{Context, Entry, at_start}
use Rattle.dns_zonefile.specs.Entry.Entry.{Directive, Include, Resource}
use Rattle.zone_records.specs.Record.{Record}
use Rattle.zone_records.specs.Zone.{IsUnder, IsZone, IsZoneFront, any_class, soa_type}
use Rattle.zone.specs.declared.zone_error.ZoneError.{ZoneError}
use Rattle.zone.specs.declared.zone_error.ZoneError.TheVariants as zone_error

-- the records among entries, in order
abbrev pub records_in : List Entry → List Record
records_in [] = []
records_in (Resource rr ∷ entries) = record_of rr ∷ records_in entries
records_in (Include path origin ∷ entries) = records_in entries
records_in (Directive ∷ entries) = records_in entries

-- the entry names no other file
abbrev pub NamesNoFile : Entry → Type 0
NamesNoFile (Resource rr) = ⊤
NamesNoFile (Include path origin) = ⊥
NamesNoFile Directive = ⊤

-- Its data is that of its type, also if the text has it in the form of unknown data (RFC 3597 5), and text can spell
-- its fields.
pub record IsWellTyped (r : Record) : Type 0 where
  pub data_is : IsData r.rtype r.rdata
  pub spellable : IsSpellable r.rtype r.rdata

-- The entries keep the rules: none names another file, the data of each record is of its type, and the records are a
-- zone's first ones.
pub record KeepRules (entries : List Entry) : Type 0 where
  pub one_file : AllByRecursion NamesNoFile entries
  pub each : AllByRecursion IsWellTyped (records_in entries)
  pub front : IsZoneFront (records_in entries)

-- the context before the text of a zone of the class: names are relative to this origin, if one is known
abbrev pub start_of : Option (List (List ℕ)) → ℕ → Context
start_of origin class = at_start origin (Some class)

-- The text is that of a zone of the class with these records.
pub record IsZoneText (text : List ℕ) (origin : Option (List (List ℕ))) (class : ℕ) (records : List Record) : Type 0 where
  pub class_known : class ≢ any_class
  pub entries : List Entry
  pub has : HasEntries (start_of origin class) text entries
  pub keep : KeepRules entries
  pub are : records ≡ records_in entries
  pub zone : IsZone records

-- After entries that keep the rules the text has this one, the n-th.
pub record Reaches (text : List ℕ) (origin : Option (List (List ℕ))) (class n : ℕ) (before : List Entry) (entry : Entry) : Type 0 where
  pub class_known : class ≢ any_class
  pub rows : List TokenRow
  pub rest : List ℕ
  pub after : Context
  pub begins : BeginsWithRows text rows rest
  pub are : AreEntries (start_of origin class) rows (push before entry) after
  pub keep : KeepRules before
  pub counted : n ≡ refused_number before

-- the same of a record
abbrev pub ReachesRecord : List ℕ → Option (List (List ℕ)) → ℕ → ℕ → List Record → Record → Type 0
ReachesRecord text origin class n records r =
    (before : List Entry) × (rr : RecordOf (List (List ℕ)) Data) × Reaches text origin class n before (Resource rr)
    × (records ≡ records_in before) × (r ≡ record_of rr)

-- a record that may follow these
abbrev pub MayFollow : List Record → Record → Type 0
MayFollow records r = IsZoneFront (push records r)

-- The entry that fails, the n-th, follows entries that keep the rules.
pub record StopsAt (text : List ℕ) (origin : Option (List (List ℕ))) (class n : ℕ) : Type 0 where
  pub class_known : class ≢ any_class
  pub before : List Entry
  pub refused : IsRefusedAfter (start_of origin class) text before
  pub keep : KeepRules before
  pub counted : n ≡ refused_number before

-- The text has no record.
pub record HasNoRecord (text : List ℕ) (origin : Option (List (List ℕ))) (class : ℕ) : Type 0 where
  pub class_known : class ≢ any_class
  pub entries : List Entry
  pub has : HasEntries (start_of origin class) text entries
  pub keep : KeepRules entries
  pub none : records_in entries ≡ []

-- The first rule that the text breaks: the class; then, of the first entry that breaks one, the first in the order of
-- the variants; then that there is a record. `OutOfMemory` holds of any text, if the class is not ANY.
abbrev pub IsZoneFault : List ℕ → Option (List (List ℕ)) → ℕ → ZoneError → Type 0
IsZoneFault text origin class zone_error.ClassAny = class ≡ any_class
IsZoneFault text origin class (zone_error.Text n) = StopsAt text origin class n
IsZoneFault text origin class (zone_error.Include n) =
    (before : List Entry) × (path : List ℕ) × (file_origin : Option (List (List ℕ)))
    × Reaches text origin class n before (Include path file_origin)
IsZoneFault text origin class (zone_error.Untyped n) =
    (records : List Record) × (r : Record) × ReachesRecord text origin class n records r × (IsData r.rtype r.rdata → ⊥)
IsZoneFault text origin class (zone_error.FirstNotSoa n) =
    (r : Record) × ReachesRecord text origin class n [] r × IsData r.rtype r.rdata × (r.rtype ≢ soa_type)
IsZoneFault text origin class (zone_error.SecondSoa n) =
    (soa : Record) × (others : List Record) × (r : Record) × ReachesRecord text origin class n (soa ∷ others) r
    × IsData r.rtype r.rdata × (r.rtype ≡ soa_type)
IsZoneFault text origin class (zone_error.OutOfZone n) =
    (soa : Record) × (others : List Record) × (r : Record) × ReachesRecord text origin class n (soa ∷ others) r
    × IsData r.rtype r.rdata × (r.rtype ≢ soa_type) × (IsUnder soa.owner r.owner → ⊥)
IsZoneFault text origin class (zone_error.Unspellable n) =
    (records : List Record) × (r : Record) × ReachesRecord text origin class n records r × IsData r.rtype r.rdata
    × MayFollow records r × (IsSpellable r.rtype r.rdata → ⊥)
IsZoneFault text origin class zone_error.NoSoa = HasNoRecord text origin class
IsZoneFault text origin class zone_error.OutOfMemory = class ≢ any_class
