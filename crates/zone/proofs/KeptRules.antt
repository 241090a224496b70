-- Which entries keep the rules if more entries follow them.
use Rattle.std.proofs.Common.{◌≡◌, ℕ, List, [], ◌∷◌, ◌++◌, append-nil, refl, sym, ◌∙◌, ap, subst}
use Rattle.std.specs.List.{AllByRecursion, push}
use Rattle.dns_header.specs.Record.{RecordOf}
use Rattle.dns_rdata.specs.Data.{Data}
use Rattle.zone_records.specs.Held.{record_of}
use Rattle.dns_zonefile.specs.Entry.{Entry}
use Rattle.dns_zonefile.specs.Entry.Entry.{Directive, Include, Resource}
use Rattle.dns_zonefile.specs.Reader.{AreDirectives}
use Rattle.zone_records.specs.Record.{Record}
use Rattle.zone_records.specs.Zone.{IsBehindSoa, IsZoneFront}
use Rattle.zone_records.proofs.Each.{all_append, all_fronts}
use Rattle.zone.specs.ZoneText.{IsWellTyped, KeepRules, MayFollow, NamesNoFile, records_in}

-- the records of entries
pub records_append : (entries more : List Entry) → records_in (entries ++ more) ≡ records_in entries ++ records_in more
records_append [] more = refl
records_append (Resource rr ∷ entries) more = ap (λ (l : List Record). record_of rr ∷ l) (records_append entries more)
records_append (Include path origin ∷ entries) more = records_append entries more
records_append (Directive ∷ entries) more = records_append entries more

pub records_push : (entries : List Entry) (rr : RecordOf (List (List ℕ)) Data)
    → records_in (push entries (Resource rr)) ≡ push (records_in entries) (record_of rr)
records_push entries rr = records_append entries (Resource rr ∷ [])

no_records : (directives : List Entry) → AreDirectives directives → records_in directives ≡ []
no_records [] are = refl
no_records (entry ∷ directives) are =
    ap (λ (e : Entry). records_in (e ∷ directives)) are.0 ∙ no_records directives are.1

pub records_behind : (entries directives : List Entry) → AreDirectives directives → records_in (entries ++ directives) ≡ records_in entries
records_behind entries directives are =
    records_append entries directives ∙ ap (λ (l : List Record). records_in entries ++ l) (no_records directives are)
    ∙ append-nil (records_in entries)

no_files : (directives : List Entry) → AreDirectives directives → AllByRecursion NamesNoFile directives
no_files [] are = tt
no_files (entry ∷ directives) are = (subst NamesNoFile (sym are.0) tt, no_files directives are.1)

-- the first records of a zone's first ones
pub zone_front : (front more : List Record) → IsZoneFront (front ++ more) → IsZoneFront front
zone_front [] more zone = tt
zone_front (soa ∷ others) more zone = (zone.0, (all_fronts (IsBehindSoa soa) others more zone.1).0)

-- no entries, and more after those that keep the rules
pub keeps_none : KeepRules []
keeps_none = record { one_file = tt; each = tt; front = tt }

pub keeps_directives : {entries : List Entry} (directives : List Entry) → KeepRules entries → AreDirectives directives
    → KeepRules (entries ++ directives)
keeps_directives {entries} directives keep are =
    let same = sym (records_behind entries directives are) in record {
      one_file = all_append NamesNoFile entries directives keep.one_file (no_files directives are);
      each = subst (λ (l : List Record). AllByRecursion IsWellTyped l) same keep.each;
      front = subst (λ (l : List Record). IsZoneFront l) same keep.front;
    }

pub keeps_directive : {entries : List Entry} → KeepRules entries → KeepRules (push entries Directive)
keeps_directive keep = keeps_directives (Directive ∷ []) keep (refl, tt)

pub keeps_record : {entries : List Entry} (rr : RecordOf (List (List ℕ)) Data) → KeepRules entries → IsWellTyped (record_of rr)
    → MayFollow (records_in entries) (record_of rr) → KeepRules (push entries (Resource rr))
keeps_record {entries} rr keep typed follows =
    let same = sym (records_push entries rr) in record {
      one_file = all_append NamesNoFile entries (Resource rr ∷ []) keep.one_file (tt, tt);
      each = subst (λ (l : List Record). AllByRecursion IsWellTyped l) same
          (all_append IsWellTyped (records_in entries) (record_of rr ∷ []) keep.each (typed, tt));
      front = subst (λ (l : List Record). IsZoneFront l) same follows;
    }

-- the first entries of those that keep the rules, and the last one
pub keeps_front : (entries more : List Entry) → KeepRules (entries ++ more) → KeepRules entries
keeps_front entries more keep =
    let same = records_append entries more in record {
      one_file = (all_fronts NamesNoFile entries more keep.one_file).0;
      each = (all_fronts IsWellTyped (records_in entries) (records_in more)
          (subst (λ (l : List Record). AllByRecursion IsWellTyped l) same keep.each)).0;
      front = zone_front (records_in entries) (records_in more) (subst (λ (l : List Record). IsZoneFront l) same keep.front);
    }

pub last_no_file : (entries : List Entry) (entry : Entry) → KeepRules (push entries entry) → NamesNoFile entry
last_no_file entries entry keep = (all_fronts NamesNoFile entries (entry ∷ []) keep.one_file).1.0

pub last_typed : (entries : List Entry) (rr : RecordOf (List (List ℕ)) Data) → KeepRules (push entries (Resource rr))
    → IsWellTyped (record_of rr)
last_typed entries rr keep =
    (all_fronts IsWellTyped (records_in entries) (record_of rr ∷ [])
    (subst (λ (l : List Record). AllByRecursion IsWellTyped l) (records_push entries rr) keep.each)).1.0

pub last_follows : (entries : List Entry) (rr : RecordOf (List (List ℕ)) Data) → KeepRules (push entries (Resource rr))
    → MayFollow (records_in entries) (record_of rr)
last_follows entries rr keep = subst (λ (l : List Record). IsZoneFront l) (records_push entries rr) keep.front
