-- How far a zone's text has been read, and the rules that a record may break. Of the calls of this crate that others see, only the contract of
-- `check_record` names it; `zone_tool` names it for each fault of a text.
use Rattle.std.specs.Prelude.{◌≡◌, ◌≢◌, ◌++◌, ℕ, Bool, true, Option, Some, None, Result, Ok, List, [], ◌∷◌, length, IfSome}
use Rattle.dns_label.specs.Name.{IsName, wire}
use Rattle.dns_header.specs.Record.{RecordOf}
use Rattle.dns_rdata.specs.Data.{Data, is_unknown}
use Rattle.dns_rdata.specs.Fields.{IsData}
use Rattle.dns_rdata.specs.DataOctets.{IsSpellable}
use Rattle.zone_records.specs.Held.{record_of}
use Rattle.zone_records.specs.MessageRecord.{IsRecord, record_octets}
use Rattle.dns_entry_scanner.specs.declared.entry_error.EntryError.{EntryError}
use Rattle.dns_zonefile.specs.Composed.{IsHeld}
use Rattle.dns_zonefile.specs.Entry.{Entry}
use Rattle.dns_zonefile.specs.Entry.Entry.{Resource}
use Rattle.dns_zonefile.specs.Reader.{Gives, GoesOver, Reader}
use Rattle.zone_records.specs.Record.{Record}
use Rattle.zone_records.specs.Zone.{IsUnder, any_class, soa_type}
use Rattle.zone.specs.ZoneText.{KeepRules, records_in, start_of}
use Rattle.zone.specs.declared.zone_error.ZoneError.{ZoneError}
use Rattle.zone.specs.declared.zone_error.ZoneError.TheVariants as zone_error

-- the reader of a zone's text before its first row
abbrev pub reader_at : List ℕ → Option (List (List ℕ)) → ℕ → Reader
reader_at text origin class = record { text = text; place = 0; context = start_of origin class; count = 0 }

-- The entries before the place of the reader keep the rules of a zone of the class, and these are their records. The
-- origin, if there is one, is a name.
pub record HasRead (text : List ℕ) (origin : Option (List (List ℕ))) (class : ℕ) (reader : Reader) (records : List Record) : Type 0 where
  pub class_known : class ≢ any_class
  pub named : IfSome origin IsName
  pub entries : List Entry
  pub goes : GoesOver (reader_at text origin class) entries reader
  pub keep : KeepRules entries
  pub are : records ≡ records_in entries

-- The reader returns a record, whose octets follow the old ones. The text writes its data in the form of unknown data
-- or not.
pub record AppendsRecord (old : List ℕ) (told : Bool) (given : Result (Option Entry) EntryError) (new : List ℕ) : Type 0 where
  pub rr : RecordOf (List (List ℕ)) Data
  pub is : given ≡ Ok (Some (Resource rr))
  pub held : IsHeld rr
  pub octets : new ≡ old ++ record_octets (record_of rr)
  pub unknown_is : told ≡ is_unknown rr.rdata

-- The reader goes on to a record, or to the end of the text, and then appends nothing to the octets.
abbrev pub AppendsNext : Reader → List ℕ → Option Bool → Reader → List ℕ → Type 0
AppendsNext reader old None new octets = Gives reader (Ok None) new × (octets ≡ old)
AppendsNext reader old (Some told) new octets =
    (given : Result (Option Entry) EntryError) × Gives reader given new × AppendsRecord old told given octets

-- the owner of the first of the records, if there is one
abbrev pub apex_in : List Record → Option (List (List ℕ))
apex_in [] = None
apex_in (soa ∷ others) = Some soa.owner

-- the number of octets of the name, or 0 if there is none
abbrev pub name_len : Option (List (List ℕ)) → ℕ
name_len None = 0
name_len (Some name) = length (wire name)

-- the octets begin with a record of this owner, or there are none
abbrev pub BeginWith : Option (List (List ℕ)) → List ℕ → Type 0
BeginWith None octets = octets ≡ []
BeginWith (Some apex) octets =
    (soa : Record) × (rest : List ℕ) × IsRecord soa × (octets ≡ record_octets soa ++ rest) × (apex ≡ soa.owner)

-- the octets are the first of the records, or none if there is none
abbrev pub IsFirst : List ℕ → List Record → Type 0
IsFirst octets [] = octets ≡ []
IsFirst octets (r ∷ others) = IsRecord r × (octets ≡ record_octets r)

-- The octets from the place on are the record, and those before it begin with one of this owner, or there are none.
pub record StandsLast (octets : List ℕ) (place : ℕ) (apex : Option (List (List ℕ))) (r : Record) : Type 0 where
  pub before : List ℕ
  pub whole : octets ≡ before ++ record_octets r
  pub at : place ≡ length before
  pub begin : BeginWith apex before
  pub is : IsRecord r

-- a record that may be in the zone of this name, or be the first of a zone
abbrev pub MayStandUnder : Option (List (List ℕ)) → Record → Type 0
MayStandUnder None r = r.rtype ≡ soa_type
MayStandUnder (Some apex) r = (r.rtype ≢ soa_type) × IsUnder apex r.owner

-- the first rule that a record breaks there, with the number of its entry
abbrev pub BreaksRule : ℕ → Option (List (List ℕ)) → Record → ZoneError → Type 0
BreaksRule number apex r (zone_error.Untyped n) = (n ≡ number) × (IsData r.rtype r.rdata → ⊥)
BreaksRule number None r (zone_error.FirstNotSoa n) = (n ≡ number) × IsData r.rtype r.rdata × (r.rtype ≢ soa_type)
BreaksRule number (Some apex) r (zone_error.SecondSoa n) = (n ≡ number) × IsData r.rtype r.rdata × (r.rtype ≡ soa_type)
BreaksRule number (Some apex) r (zone_error.OutOfZone n) =
    (n ≡ number) × IsData r.rtype r.rdata × (r.rtype ≢ soa_type) × (IsUnder apex r.owner → ⊥)
BreaksRule number apex r (zone_error.Unspellable n) =
    (n ≡ number) × IsData r.rtype r.rdata × MayStandUnder apex r × (IsSpellable r.rtype r.rdata → ⊥)
BreaksRule number apex r error = ⊥

-- the same, or out of memory, if the text writes the data in the form of unknown data
abbrev pub IsCheckFault : Bool → ℕ → Option (List (List ℕ)) → Record → ZoneError → Type 0
IsCheckFault unknown number apex r zone_error.OutOfMemory = unknown ≡ true
IsCheckFault unknown number apex r error = BreaksRule number apex r error
