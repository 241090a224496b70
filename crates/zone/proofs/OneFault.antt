-- A text has at most one fault, and a zone's text has none.
use Rattle.std.proofs.Common.{◌≡◌, ◌≢◌, ℕ, List, [], ◌∷◌, Option, inl, inr, refl, sym, ◌∙◌, ap, subst}
use Rattle.std.specs.List.{AllByRecursion, push}
use Rattle.dns_header.specs.Record.{RecordOf}
use Rattle.dns_rdata.specs.Data.{Data}
use Rattle.dns_rdata.specs.DataOctets.{IsSpellable}
use Rattle.dns_rdata.specs.Fields.{IsData}
use Rattle.zone_records.specs.Held.{record_of}
use Rattle.dns_zonefile.specs.Entries.{HasEntries, IsRefusedAfter, refused_number}
use Rattle.dns_zonefile.specs.Entry.{Context, Entry}
use Rattle.dns_zonefile.specs.Entry.Entry.{Directive, Include, Resource}
use Rattle.dns_zonefile.proofs.OneList.{not_both, refused, whole}
use Rattle.zone_records.specs.Record.{Record}
use Rattle.zone_records.specs.Zone.{IsBehindSoa, IsUnder, IsZone, any_class, soa_type}
use Rattle.zone_records.proofs.Each.{all_fronts}
use Rattle.zone.specs.ZoneText.{IsWellTyped, IsZoneFault, IsZoneText, KeepRules, MayFollow, Reaches, ReachesRecord, records_in, start_of}
use Rattle.zone.specs.declared.zone_error.ZoneError.{ZoneError}
use Rattle.zone.specs.declared.zone_error.ZoneError.TheVariants as zone_error
use Rattle.zone.proofs.Beginnings.{BeginsWith, IsFront, comparable, front_or_whole, within_refused, within_whole}
use Rattle.zone.proofs.KeptRules.{keeps_front, last_follows, last_no_file, last_typed}

-- what the text does after entries: it fails, it ends, or it goes on with an entry
data Event : Type 0 where
  Stops : Event
  Ends : Event
  Goes : Entry → Event

data Finds (start : Context) (text : List ℕ) (entries : List Entry) : Event → Type 0 where
  stops : IsRefusedAfter start text entries → Finds start text entries Stops
  ends : HasEntries start text entries → Finds start text entries Ends
  goes : {entry : Entry} → BeginsWith start text (push entries entry) → Finds start text entries (Goes entry)

-- two places of a text
data Placed (before others : List Entry) (event other : Event) : Type 0 where
  same : before ≡ others → event ≡ other → Placed before others event other
  earlier : (entry : Entry) → event ≡ Goes entry → IsFront (push before entry) others → Placed before others event other
  later : (entry : Entry) → other ≡ Goes entry → IsFront (push others entry) before → Placed before others event other

turned : {before others : List Entry} {event other : Event} → Placed before others event other → Placed others before other event
turned (same is event) = same (sym is) (sym event)
turned (earlier entry event front) = later entry event front
turned (later entry event front) = earlier entry event front

same_push : (before others : List Entry) (entry other : Entry) → push before entry ≡ push others other
    → (before ≡ others) × (entry ≡ other)
same_push [] [] entry other is = let last : entry ≡ other = cc in (refl, last)
same_push [] (o ∷ []) entry other is = absurd cc
same_push [] (o ∷ (p ∷ others)) entry other is = absurd cc
same_push (b ∷ []) [] entry other is = absurd cc
same_push (b ∷ (c ∷ before)) [] entry other is = absurd cc
same_push (b ∷ before) (o ∷ others) entry other is =
    let first : b ≡ o = cc in
    let behind : push before entry ≡ push others other = cc in
    let rest = same_push before others entry other behind in
    ((λ i. first i ∷ rest.0 i), rest.1)

place_push : (before others : List Entry) (entry other : Entry) → IsFront (push before entry) (push others other)
    → Placed before others (Goes entry) (Goes other)
place_push before others entry other front = elim (front_or_whole others other (push before entry) front.0 front.1) [
  | inl inside ↦ earlier entry refl inside
  | inr is ↦ (let both = same_push before others entry other is in same both.0 (ap Goes both.1))
]

place : {start : Context} {text : List ℕ} {before others : List Entry} {event other : Event} → Finds start text before event
    → Finds start text others other → Placed before others event other
place (stops is) (stops also) = same (refused is also) refl
place (stops is) (ends also) = absurd (not_both also is)
place (stops is) (goes {entry = other} also) = later other refl (within_refused is also)
place (ends is) (stops also) = absurd (not_both is also)
place (ends is) (ends also) = same (whole is also) refl
place (ends is) (goes {entry = other} also) = later other refl (within_whole is also)
place (goes {entry = entry} is) (stops also) = earlier entry refl (within_refused also is)
place (goes {entry = entry} is) (ends also) = earlier entry refl (within_whole also is)
place {before = before} {others = others} (goes {entry = entry} is) (goes {entry = other} also) = elim (comparable is also) [
  | inl front ↦ place_push before others entry other front
  | inr front ↦ turned (place_push others before other entry front)
]

-- which rule a record breaks after these
data BreaksFront (n : ℕ) (r : Record) : List Record → ZoneError → Type 0 where
  first : r.rtype ≢ soa_type → BreaksFront n r [] (zone_error.FirstNotSoa n)
  second : {soa : Record} {others : List Record} → r.rtype ≡ soa_type → BreaksFront n r (soa ∷ others) (zone_error.SecondSoa n)
  out : {soa : Record} {others : List Record} → r.rtype ≢ soa_type → (IsUnder soa.owner r.owner → ⊥)
      → BreaksFront n r (soa ∷ others) (zone_error.OutOfZone n)

data BreaksRecord (n : ℕ) (r : Record) (records : List Record) : ZoneError → Type 0 where
  untyped : (IsData r.rtype r.rdata → ⊥) → BreaksRecord n r records (zone_error.Untyped n)
  placed : {e : ZoneError} → IsData r.rtype r.rdata → BreaksFront n r records e → BreaksRecord n r records e
  unspellable : IsData r.rtype r.rdata → MayFollow records r → (IsSpellable r.rtype r.rdata → ⊥)
      → BreaksRecord n r records (zone_error.Unspellable n)

last_behind : (soa r : Record) (others : List Record) → AllByRecursion (IsBehindSoa soa) (push others r) → IsBehindSoa soa r
last_behind soa r others each = (all_fronts (IsBehindSoa soa) others (r ∷ []) each).1.0

no_follower : {n : ℕ} {r : Record} {records : List Record} {e : ZoneError} → BreaksFront n r records e → MayFollow records r → ⊥
no_follower (first apart) follows = apart follows.0
no_follower {r = r} (second {soa = soa} {others = others} is) follows = (last_behind soa r others follows.1).no_soa is
no_follower {r = r} (out {soa = soa} {others = others} apart under) follows = under (last_behind soa r others follows.1).under

one_front : {n : ℕ} {r : Record} {records : List Record} {e d : ZoneError} → BreaksFront n r records e → BreaksFront n r records d → e ≡ d
one_front (first apart) (first apart') = refl
one_front (second is) (second is') = refl
one_front (second is) (out apart under) = absurd (apart is)
one_front (out apart under) (second is) = absurd (apart is)
one_front (out apart under) (out apart' under') = refl

one_record : {n : ℕ} {r : Record} {records : List Record} {e d : ZoneError} → BreaksRecord n r records e → BreaksRecord n r records d
    → e ≡ d
one_record (untyped lacks) (untyped lacks') = refl
one_record (untyped lacks) (placed is breaks) = absurd (lacks is)
one_record (untyped lacks) (unspellable is follows unspelled) = absurd (lacks is)
one_record (placed is breaks) (untyped lacks) = absurd (lacks is)
one_record (placed is breaks) (placed is' breaks') = one_front breaks breaks'
one_record (placed is breaks) (unspellable is' follows unspelled) = absurd (no_follower breaks follows)
one_record (unspellable is follows unspelled) (untyped lacks) = absurd (lacks is)
one_record (unspellable is follows unspelled) (placed is' breaks) = absurd (no_follower breaks follows)
one_record (unspellable is follows unspelled) (unspellable is' follows' unspelled') = refl

breaks_one : {n : ℕ} {r : Record} {records : List Record} {e : ZoneError} → BreaksRecord n r records e → IsWellTyped r
    → MayFollow records r → ⊥
breaks_one (untyped lacks) typed follows = lacks typed.data_is
breaks_one (placed is breaks) typed follows = no_follower breaks follows
breaks_one (unspellable is may unspelled) typed follows = unspelled typed.spellable

-- which rule is broken by what the text does after entries
data Breaks (before : List Entry) : Event → ZoneError → Type 0 where
  text : Breaks before Stops (zone_error.Text (refused_number before))
  file : {path : List ℕ} {origin : Option (List (List ℕ))}
      → Breaks before (Goes (Include path origin)) (zone_error.Include (refused_number before))
  resource : {rr : RecordOf (List (List ℕ)) Data} {e : ZoneError}
      → BreaksRecord (refused_number before) (record_of rr) (records_in before) e → Breaks before (Goes (Resource rr)) e
  nothing : records_in before ≡ [] → Breaks before Ends zone_error.NoSoa

one_error : {before : List Entry} {event : Event} {e d : ZoneError} → Breaks before event e → Breaks before event d → e ≡ d
one_error text text = refl
one_error file file = refl
one_error (resource breaks) (resource breaks') = one_record breaks breaks'
one_error (nothing none) (nothing none') = refl

no_front : (before : List Entry) (entry : Entry) {e : ZoneError} → Breaks before (Goes entry) e → KeepRules (push before entry) → ⊥
no_front before (Include path origin) file keep = last_no_file before (Include path origin) keep
no_front before (Resource rr) (resource breaks) keep = breaks_one breaks (last_typed before rr keep) (last_follows before rr keep)
no_front before Directive breaks keep = elim breaks [ ]

-- a fault other than that of the class
record FaultAt (start : Context) (given : List ℕ) (e : ZoneError) : Type 0 where
  pub before : List Entry
  pub event : Event
  pub finds : Finds start given before event
  pub keep : KeepRules before
  pub breaks : Breaks before event e

-- entries that keep the rules do not go on after it
not_earlier : {start : Context} {given : List ℕ} {e : ZoneError} {others : List Entry} (at : FaultAt start given e) (entry : Entry)
    → at.event ≡ Goes entry → IsFront (push at.before entry) others → KeepRules others → ⊥
not_earlier {e = e} at entry event front keep =
    no_front at.before entry (subst (λ (v : Event). Breaks at.before v e) event at.breaks)
    (keeps_front (push at.before entry) front.0 (subst KeepRules front.1 keep))

one_fault_at : {start : Context} {given : List ℕ} {e d : ZoneError} → FaultAt start given e → FaultAt start given d → e ≡ d
one_fault_at {e = e} {d = d} a b = by (place a.finds b.finds)
  where
    by : Placed a.before b.before a.event b.event → e ≡ d
    by (same before event) =
        one_error (subst (λ (v : Event). Breaks b.before v e) event (subst (λ (l : List Entry). Breaks l a.event e) before a.breaks))
        b.breaks
    by (earlier entry event front) = absurd (not_earlier a entry event front b.keep)
    by (later entry event front) = absurd (not_earlier b entry event front a.keep)

-- each fault is of the class, of memory, or at a place
data Kinds (origin : Option (List (List ℕ))) (class : ℕ) (given : List ℕ) (e : ZoneError) : Type 0 where
  of_class : class ≡ any_class → e ≡ zone_error.ClassAny → Kinds origin class given e
  of_memory : class ≢ any_class → e ≡ zone_error.OutOfMemory → Kinds origin class given e
  at_place : class ≢ any_class → FaultAt (start_of origin class) given e → Kinds origin class given e

reached : {given : List ℕ} {origin : Option (List (List ℕ))} {class n : ℕ} {before : List Entry} {entry : Entry} {e : ZoneError}
    → Reaches given origin class n before entry → Breaks before (Goes entry) e → Kinds origin class given e
reached {before = before} {entry = entry} is breaks = at_place is.class_known (record {
  before = before;
  event = Goes entry;
  finds = goes (record { rows = is.rows; rest = is.rest; after = is.after; begins = is.begins; are = is.are });
  keep = is.keep;
  breaks = breaks;
})

reached_record : {given : List ℕ} {origin : Option (List (List ℕ))} {class n : ℕ} {records : List Record} {r : Record} {e : ZoneError}
    → ReachesRecord given origin class n records r → BreaksRecord n r records e → Kinds origin class given e
reached_record {n = n} {records = records} {r = r} {e = e} is breaks =
    let counted : BreaksRecord (refused_number is.0) r records e =
    subst (λ (m : ℕ). BreaksRecord m r records e) is.2.counted breaks in
    let behind : BreaksRecord (refused_number is.0) r (records_in is.0) e =
    subst (λ (l : List Record). BreaksRecord (refused_number is.0) r l e) is.3 counted in
    reached is.2 (resource (subst (λ (s : Record). BreaksRecord (refused_number is.0) s (records_in is.0) e) is.4 behind))

kinds_of : (given : List ℕ) (origin : Option (List (List ℕ))) (class : ℕ) (e : ZoneError) → IsZoneFault given origin class e
    → Kinds origin class given e
kinds_of given origin class zone_error.ClassAny fault = of_class fault refl
kinds_of given origin class (zone_error.Text n) fault = at_place fault.class_known (record {
  before = fault.before;
  event = Stops;
  finds = stops fault.refused;
  keep = fault.keep;
  breaks = subst (λ (m : ℕ). Breaks fault.before Stops (zone_error.Text m)) (sym fault.counted) text;
})
kinds_of given origin class (zone_error.Include n) fault =
    let before = fault.0 in
    reached fault.3
    (subst (λ (m : ℕ). Breaks before (Goes (Include fault.1 fault.2)) (zone_error.Include m)) (sym fault.3.counted) file)
kinds_of given origin class (zone_error.Untyped n) fault = reached_record fault.2 (untyped fault.3)
kinds_of given origin class (zone_error.FirstNotSoa n) fault = reached_record fault.1 (placed fault.2 (first fault.3))
kinds_of given origin class (zone_error.SecondSoa n) fault = reached_record fault.3 (placed fault.4 (second fault.5))
kinds_of given origin class (zone_error.OutOfZone n) fault = reached_record fault.3 (placed fault.4 (out fault.5 fault.6))
kinds_of given origin class (zone_error.Unspellable n) fault = reached_record fault.2 (unspellable fault.3 fault.4 fault.5)
kinds_of given origin class zone_error.NoSoa fault = at_place fault.class_known (record {
  before = fault.entries;
  event = Ends;
  finds = ends fault.has;
  keep = fault.keep;
  breaks = nothing fault.none;
})
kinds_of given origin class zone_error.OutOfMemory fault = of_memory fault refl

one_kind : {origin : Option (List (List ℕ))} {class : ℕ} {given : List ℕ} {e d : ZoneError} → e ≢ zone_error.OutOfMemory
    → d ≢ zone_error.OutOfMemory → Kinds origin class given e → Kinds origin class given d → e ≡ d
one_kind real real' (of_memory known is) other = absurd (real is)
one_kind real real' (of_class any is) (of_class any' is') = is ∙ sym is'
one_kind real real' (of_class any is) (of_memory known is') = absurd (real' is')
one_kind real real' (of_class any is) (at_place known at) = absurd (known any)
one_kind real real' (at_place known at) (of_class any is) = absurd (known any)
one_kind real real' (at_place known at) (of_memory known' is') = absurd (real' is')
one_kind real real' (at_place known at) (at_place known' at') = one_fault_at at at'

pub one_fault : (given : List ℕ) (origin : Option (List (List ℕ))) (class : ℕ) (e d : ZoneError) → e ≢ zone_error.OutOfMemory
    → d ≢ zone_error.OutOfMemory → IsZoneFault given origin class e → IsZoneFault given origin class d → e ≡ d
one_fault given origin class e d real real' fault fault' =
    one_kind real real' (kinds_of given origin class e fault) (kinds_of given origin class d fault')

-- the fault of the class is the only one of class ANY
pub any_fault : (given : List ℕ) (origin : Option (List (List ℕ))) (e : ZoneError) → IsZoneFault given origin any_class e
    → e ≡ zone_error.ClassAny
any_fault given origin e fault = elim (kinds_of given origin any_class e fault) [
  | of_class any is ↦ is
  | of_memory known is ↦ absurd (known refl)
  | at_place known at ↦ absurd (known refl)
]

-- a zone's text has no fault
no_break_at_end : {before : List Entry} {e : ZoneError} → IsZone (records_in before) → Breaks before Ends e → ⊥
no_break_at_end zone (nothing none) = subst IsZone none zone

zone_no_fault_at : {given : List ℕ} {origin : Option (List (List ℕ))} {class : ℕ} {records : List Record} {e : ZoneError}
    → IsZoneText given origin class records → FaultAt (start_of origin class) given e → ⊥
zone_no_fault_at {e = e} zone at = by (place at.finds (ends zone.has))
  where
    by : Placed at.before zone.entries at.event Ends → ⊥
    by (same before event) =
        no_break_at_end (subst IsZone (zone.are ∙ ap records_in (sym before)) zone.zone)
        (subst (λ (v : Event). Breaks at.before v e) event at.breaks)
    by (earlier entry event front) = not_earlier at entry event front zone.keep
    by (later entry event front) = cc

zone_no_kind : {given : List ℕ} {origin : Option (List (List ℕ))} {class : ℕ} {records : List Record} {e : ZoneError}
    → IsZoneText given origin class records → Kinds origin class given e → e ≡ zone_error.OutOfMemory
zone_no_kind zone (of_class any is) = absurd (zone.class_known any)
zone_no_kind zone (of_memory known is) = is
zone_no_kind zone (at_place known at) = absurd (zone_no_fault_at zone at)

pub zone_no_fault : (given : List ℕ) (origin : Option (List (List ℕ))) (class : ℕ) (records : List Record) (e : ZoneError)
    → IsZoneText given origin class records → IsZoneFault given origin class e → e ≡ zone_error.OutOfMemory
zone_no_fault given origin class records e zone fault = zone_no_kind zone (kinds_of given origin class e fault)

-- and it has one list of records
pub one_reading : (given : List ℕ) (origin : Option (List (List ℕ))) (class : ℕ) (a b : List Record) → IsZoneText given origin class a
    → IsZoneText given origin class b → a ≡ b
one_reading given origin class a b zone other = zone.are ∙ ap records_in (whole zone.has other.has) ∙ sym other.are
