-- A text without a fault is a zone's, or has no record.
use Rattle.std.proofs.Common.{◌≡◌, ◌≢◌, ◌==◌, ◌∙◌, ℕ, Bool, true, false, if◌then◌else◌, List, [], ◌∷◌, Option, Some, None, Ok, refl, sym, ap, subst, arith}
use Rattle.std.proofs.lemmas.Bool.Decides.{nat_tests}
use Rattle.std.specs.Prelude.{⊤, IfSome, is_none}
use Rattle.std.specs.List.{push}
use Rattle.dns_label.specs.Name.{IsName}
use Rattle.dns_header.specs.Record.{RecordOf}
use Rattle.dns_rdata.specs.Data.{Data}
use Rattle.dns_message.specs.Held.{record_of}
use Rattle.dns_zonefile.specs.Reader.{Reader}
use Rattle.zone_records.specs.Record.{Record}
use Rattle.zone_records.specs.Zone.{any_class, soa_type}
use Rattle.zone.specs.Reading.{HasRead, MayStandUnder, apex_in, reader_at}
use Rattle.zone.specs.ZoneText.{IsZoneFault, IsZoneText}
use Rattle.zone.specs.declared.zone_error.ZoneError.{ZoneError}
use Rattle.zone.specs.declared.zone_error.ZoneError.TheVariants as zone_error
use Rattle.zone.proofs.OneFault.{one_fault, zone_no_fault}
use Rattle.zone.proofs.ReadRecords.{follows, front_read, kept_of, more_read, no_record_read, nothing_read, record_met}
use Rattle.zone.proofs.ReaderSteps.{zone_text}
use Rattle.zone_explain.specs.AllFaults.{AreAllFaults, AreFaults, Front, apex_for, front_after}
use Rattle.zone_explain.specs.EntryRow.{number_of}
use Rattle.zone_explain.specs.Explained.{IsExplained}
use Rattle.zone_explain.specs.Walk.{LeadsTo}
use Rattle.zone_explain.specs.declared.explain.Finding.{Finding}

-- the records so far have shown this
abbrev ShownBy : Front → List Record → Type 0
ShownBy Front.unseen records = records ≡ []
ShownBy Front.missing records = ⊥
ShownBy (Front.under apex) records = apex_in records ≡ Some apex

data Faultless (text : List ℕ) (origin : Option (List (List ℕ))) (class : ℕ) : Type 0 where
  zone : (records : List Record) → IsZoneText text origin class records → Faultless text origin class
  bare : IsZoneFault text origin class zone_error.NoSoa → Faultless text origin class

apex_same : (front : Front) (records : List Record) (r : Record) → ShownBy front records → apex_for front r ≡ apex_in records
apex_same Front.unseen records r shown = ap apex_in (sym shown)
apex_same Front.missing records r shown = absurd shown
apex_same (Front.under apex) records r shown = sym shown

apex_pushed : (records : List Record) (r : Record) (apex : List (List ℕ)) → apex_in records ≡ Some apex → apex_in (push records r) ≡ Some apex
apex_pushed [] r apex shown = absurd cc
apex_pushed (soa ∷ others) r apex shown = shown

same_type : (n m : ℕ) → n ≡ m → (n == m) ≡ true
same_type n m same = grind (arith, nat_tests)

shown_after : (front : Front) (records : List Record) (r : Record) → ShownBy front records → MayStandUnder (apex_for front r) r
    → ShownBy (front_after front r) (push records r)
shown_after Front.unseen records r shown may =
    let first : apex_in (push records r) ≡ Some r.owner = ap (λ (l : List Record). apex_in (push l r)) shown in
    let soa : (r.rtype == soa_type) ≡ true = same_type r.rtype soa_type may in
    subst (λ (front : Front). ShownBy front (push records r)) (sym (ap (λ (b : Bool). if b then Front.under r.owner else Front.missing) soa)) first
shown_after Front.missing records r shown may = absurd shown
shown_after (Front.under apex) records r shown may = apex_pushed records r apex shown

faultless : {text : List ℕ} {origin : Option (List (List ℕ))} {class : ℕ} {reader : Reader} {front : Front} (records : List Record) (findings : List Finding)
    → HasRead text origin class reader records → ShownBy front records → AreFaults reader front findings → findings ≡ [] → Faultless text origin class
faultless [] findings read shown (AreFaults.ended gives) none = bare (no_record_read [] read gives refl refl)
faultless (soa ∷ others) findings read shown (AreFaults.ended gives) none = zone (soa ∷ others) (zone_text (kept_of read) gives (front_read read))
faultless {front = front} records findings read shown (AreFaults.keeps {rr = rr} gives typed may rest) none =
    let r = record_of rr in
    let follow = follows records (apex_for front r) r (apex_same front records r shown) (front_read read) may in
    faultless (push records r) findings (more_read read (record_met read gives refl refl) typed follow) (shown_after front records r shown may) rest none
faultless records findings read shown (AreFaults.breaks gives breaks finds last rest) none = absurd cc
faultless records findings read shown (AreFaults.includes gives finds last rest) none = absurd cc
faultless records findings read shown (AreFaults.refused gives at passes finds rest) none = absurd cc

-- but a text with a fault of an entry is neither
numbered_real : (fault : ZoneError) → number_of fault ≢ None → (fault ≢ zone_error.OutOfMemory) × (fault ≢ zone_error.NoSoa) × (fault ≢ zone_error.ClassAny)
numbered_real fault some = (
  (λ is. some (ap number_of is)),
  (λ is. some (ap number_of is)),
  (λ is. some (ap number_of is)),
)

known : (text : List ℕ) (origin : Option (List (List ℕ))) (class : ℕ) (fault : ZoneError) → number_of fault ≢ None → IsZoneFault text origin class fault
    → class ≢ any_class
known text origin class zone_error.ClassAny some is = absurd (some refl)
known text origin class (zone_error.Text n) some is = is.class_known
known text origin class (zone_error.Include n) some is = is.3.class_known
known text origin class (zone_error.Untyped n) some is = is.2.2.class_known
known text origin class (zone_error.FirstNotSoa n) some is = is.1.2.class_known
known text origin class (zone_error.SecondSoa n) some is = is.3.2.class_known
known text origin class (zone_error.OutOfZone n) some is = is.3.2.class_known
known text origin class (zone_error.Unspellable n) some is = is.2.2.class_known
known text origin class zone_error.NoSoa some is = absurd (some refl)
known text origin class zone_error.OutOfMemory some is = absurd (some refl)

pub some_found : {text : List ℕ} {origin : Option (List (List ℕ))} {class : ℕ} {findings : List Finding} (fault : ZoneError) → IfSome origin IsName
    → IsZoneFault text origin class fault → number_of fault ≢ None → AreFaults (reader_at text origin class) Front.unseen findings
    → findings ≢ []
some_found {text} {origin} {class} {findings} fault named is some faults none =
    by (faultless [] findings (nothing_read (known text origin class fault some is) named refl) refl faults none)
  where
    by : Faultless text origin class → ⊥
    by (zone records zone_is) = (numbered_real fault some).0 (zone_no_fault text origin class records fault zone_is is)
    by (bare no_soa) =
        let real = numbered_real fault some in
        let other : zone_error.NoSoa ≢ zone_error.OutOfMemory = λ same. absurd cc in
        real.1 (one_fault text origin class fault zone_error.NoSoa real.0 other is no_soa)

-- what is found, and what is not
pub not_found : {text : List ℕ} {origin : Option (List (List ℕ))} {class : ℕ} (found : Option Finding) → ((first : Finding) → found ≡ Some first → ⊥)
    → IsExplained text origin class found → AreAllFaults text origin class []
not_found (Some first) other is = absurd (other first refl)
not_found None other is = AreAllFaults.none is.1

pub none_leads : (old new : Reader) (before after : Front) (found : Option Finding) → ((finding : Finding) → found ≡ Some finding → ⊥)
    → LeadsTo old before found new after → AreFaults old before []
none_leads old new before after (Some finding) other leads = absurd (other finding refl)
none_leads old new before after None other leads = leads

pub is_number : (number : Option ℕ) → is_none number ≡ false → number ≢ None
is_number (Some n) some none = absurd cc
is_number None some none = absurd cc

pub no_number : (number : Option ℕ) → is_none number ≡ true → number ≡ None
no_number (Some n) none = absurd cc
no_number None none = refl
