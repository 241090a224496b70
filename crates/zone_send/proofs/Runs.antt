-- Runs of records that fill a message, and what the sender holds before them and behind them.
use Rattle.std.proofs.Common.{◌≡◌, ℕ, ◌+◌, ◌-◌, ◌<◌, ◌≤◌, zero, suc, Option, Some, None, List, [], ◌∷◌, ◌++◌, length, take, drop, refl, sym, ap, ◌∙◌, subst, arith, append-nil, length-append}
use Rattle.std.specs.Prelude.{flat_map, slice_get, IfSome}
use Rattle.std.specs.List.{AllByRecursion, push}
use Rattle.std.proofs.lemmas.List.{length-take-le}
use Rattle.std.proofs.lemmas.Option.{slice_get_within}
use Rattle.dns_message.specs.Record.{Record, record_octets}
use Rattle.zone_records.proofs.Indexed.{element_at, take-next}
use Rattle.zone_records.proofs.StoredRecords.{taken_from}
use Rattle.zone_core.specs.Query.{AxfrQuery}
use Rattle.zone_core.specs.Cutting.{joined, IsNonempty, IsFullCut, FitsNotBehind, IsBlocked}
use Rattle.zone_core.proofs.Greedy.{full_cut_closes, not_behind_last}
use Rattle.zone_send.specs.Sent.{size, with_soa_again}
use Rattle.zone_send.specs.Sending.{IsFor, HoldsGroups, Holds, FitsNowhere, IsRun, octets_before}
use Rattle.zone_send.specs.declared.sending.plain.Sender.{Sender}
use Rattle.zone_send.proofs.Plain.{records_append}
use Rattle.zone_send.proofs.PutRecords.{few_records, size-append, size-push}
use Rattle.zone_send.proofs.Streams.{record_blocked}

-- What a sender holds between two messages: the record that is next has no room in the last of them.
pub record HoldsFull (sender : Sender) (query : AxfrQuery) (records : List Record) (next : Option Record) : Type 0 where
  pub groups : List (List Record)
  pub holds : HoldsGroups sender query groups
  pub cut : IsFullCut (size query) sender.max records groups
  pub behind : IfSome next (FitsNotBehind (size query) sender.max groups)

pub holds_of : (sender : Sender) (query : AxfrQuery) (records : List Record) (next : Option Record)
    → HoldsFull sender query records next → Holds sender query records
holds_of sender query records next full = record { groups = full.groups; holds = full.holds; cut = full.cut }

-- no records are cut into no groups
no_groups : (groups : List (List Record)) → AllByRecursion IsNonempty groups → joined groups ≡ [] → groups ≡ []
no_groups [] nonempty none = refl
no_groups ([] ∷ groups) nonempty none = absurd nonempty.0
no_groups ((r ∷ group) ∷ groups) nonempty none = absurd cc

behind_none : (f : List Record → ℕ) (max : ℕ) (next : Option Record) → IfSome next (FitsNotBehind f max [])
behind_none f max None = tt
behind_none f max (Some r) = tt

pub full_at_first : (sender : Sender) (query : AxfrQuery) (next : Option Record) → Holds sender query [] → HoldsFull sender query [] next
full_at_first sender query next holds =
    let none = no_groups holds.groups holds.cut.fits.cut.nonempty holds.cut.fits.cut.joins in
    let P : List (List Record) → Type 0 = λ gs. IfSome next (FitsNotBehind (size query) sender.max gs) in
    record {
      groups = holds.groups;
      holds = holds.holds;
      cut = holds.cut;
      behind = subst P (sym none) (behind_none (size query) sender.max next);
    }

-- the records from one index up to another
abbrev pub run_of : List Record → ℕ → ℕ → List Record
run_of records start end = take (end - start) (drop start records)

-- so many octets has a message with a run
pub run_size : (query : AxfrQuery) (records : List Record) (start end : ℕ) → start ≤ end
    → size query (run_of records start end) + octets_before records start ≡ size query [] + octets_before records end
run_size query records start end ordered =
    let ends = ap (λ (l : List Record). length (flat_map record_octets l)) (taken_from records start end ordered) in
    omega (arith, size-append query [] (run_of records start end), ends, records_append (take start records) (run_of records start end))

-- the first records have no more octets than more of them
pub octets_ordered : (records : List Record) (start end : ℕ) → start ≤ end → octets_before records start ≤ octets_before records end
octets_ordered records start end ordered =
    let ends = ap (λ (l : List Record). length (flat_map record_octets l)) (taken_from records start end ordered) in
    omega (arith, ends, records_append (take start records) (run_of records start end))

-- so many records are in a run
pub run_length : (records : List Record) (start end : ℕ) → start ≤ end → end ≤ length records → length (run_of records start end) ≡ end - start
run_length records start end ordered within =
    omega (
      arith,
      ap length (taken_from records start end ordered),
      length-append (take start records) (run_of records start end),
      length-take-le end records within,
      length-take-le start records (omega (arith, ordered, within)),
    )

-- which are no more than the octets that they have room for
pub run_few : (records : List Record) (start end room : ℕ) → IsRun records start room end → end - start ≤ room
run_few records start end room run =
    let ends = ap (λ (l : List Record). length (flat_map record_octets l)) (taken_from records start end run.ordered) in
    omega (
      arith,
      run_length records start end run.ordered run.within,
      few_records (run_of records start end),
      ends,
      records_append (take start records) (run_of records start end),
      run.fits,
    )

-- how much room records have in a message
pub room_for : (sender other : Sender) (query : AxfrQuery) (room : ℕ) → IsFor sender query
    → room ≡ sender.max - length sender.opening.items → other.max ≡ sender.max → room ≡ other.max - size query []
room_for sender other query room is_for is same =
    is ∙ ap (λ n. sender.max - n) (ap length is_for.opening) ∙ ap (λ n. n - size query []) (sym same)

-- a run has room in a message
pub run_fits : (query : AxfrQuery) (records : List Record) (max start end room : ℕ) → IsRun records start room end → start < end
    → room ≡ max - size query [] → size query (run_of records start end) ≤ max
run_fits query records max start end room run some room_is =
    let run' : List Record = run_of records start end in
    omega (
      arith,
      run_size query records start end run.ordered,
      size-append query [] run',
      few_records run',
      run_length records start end run.ordered run.within,
      run.fits,
      some,
      room_is,
    )

-- and it begins with the first of its records
run_begins : {X : Type 0} (xs : List X) (first end : ℕ) → first < end → end ≤ length xs
    → (x : X) × (others : List X) × (slice_get xs first ≡ Some x) × (take (end - first) (drop first xs) ≡ x ∷ others)
run_begins [] first end some within = absurd (omega (arith, some, within))
run_begins (x ∷ xs) first zero some within = absurd (omega (arith, some))
run_begins (x ∷ xs) zero (suc end) some within =
    let count : suc end - 0 ≡ suc end = omega arith in (x, take end xs, refl, ap (λ n. take n (x ∷ xs)) count)
run_begins (x ∷ xs) (suc first) (suc end) some within =
    let begins = run_begins xs first end (omega (arith, some)) (omega (arith, within)) in
    let count : suc end - suc first ≡ end - first = omega arith in
    (begins.0, begins.1, begins.2, ap (λ n. take n (drop first xs)) count ∙ begins.3)

-- one record more
next_octets : (records : List Record) (end : ℕ) (r : Record) → slice_get records end ≡ Some r
    → octets_before records (end + 1) ≡ octets_before records end + length (record_octets r)
next_octets records end r at =
    let ends = ap (λ (l : List Record). length (flat_map record_octets l)) (take-next records end r at) in
    omega (arith, ends, records_append (take end records) (r ∷ []), ap length (append-nil (record_octets r)))

when_there : {X : Type 0} (P : X → Type 0) (found : Option X) → ((x : X) → found ≡ Some x → P x) → IfSome found P
when_there P None each = tt
when_there P (Some x) each = each x refl

-- a message with a run is added
pub next_message : (old new : Sender) (query : AxfrQuery) (records : List Record) (start end room : ℕ)
    → HoldsFull old query (take start records) (slice_get records start) → IsRun records start room end → start < end
    → room ≡ old.max - size query [] → new.max ≡ old.max
    → ((groups : List (List Record)) → HoldsGroups old query groups → HoldsGroups new query (push groups (run_of records start end)))
    → HoldsFull new query (take end records) (slice_get records end)
next_message old new query records start end room full run some room_is same added =
    let begins = run_begins records start end some run.within in
    let x : Record = begins.0 in
    let run' : List Record = run_of records start end in
    let N : Option Record → Type 0 = λ next. IfSome next (FitsNotBehind (size query) old.max full.groups) in
    let behind : FitsNotBehind (size query) old.max full.groups x = subst N begins.2 full.behind in
    let S : List Record → Type 0 = λ group. size query group ≤ old.max in
    let fits = subst S begins.3 (run_fits query records old.max start end room run some room_is) in
    let cut = full_cut_closes (size query) old.max (take start records) full.groups x begins.1 full.cut behind fits in
    let G : List Record → Type 0 = λ group. IsFullCut (size query) old.max (take start records ++ group) (push full.groups group) in
    let R : List Record → Type 0 = λ rs. IsFullCut (size query) old.max rs (push full.groups run') in
    let M : ℕ → Type 0 = λ max. IsFullCut (size query) max (take end records) (push full.groups run') in
    let large : (r : Record) → slice_get records end ≡ Some r → FitsNotBehind (size query) new.max (push full.groups run') r = λ r at.
    let over : new.max < size query (push run' r) =
    omega (
      arith,
      size-push query run' r,
      run_size query records start end run.ordered,
      next_octets records end r at,
      run.full (slice_get_within records end r at),
      room_is,
      same,
    ) in
    not_behind_last (size query) new.max full.groups run' r over in
    record {
      groups = push full.groups run';
      holds = added full.groups full.holds;
      cut = subst M (sym same) (subst R (sym (taken_from records start end run.ordered)) (subst G (sym begins.3) cut));
      behind = when_there (FitsNotBehind (size query) new.max (push full.groups run')) (slice_get records end) large;
    }

-- a record is blocked if none has room in a new message
pub blocked_next : (sender : Sender) (query : AxfrQuery) (records : List Record) (start room max : ℕ)
    → HoldsFull sender query (take start records) (slice_get records start) → IsRun records start room start → start < length records
    → room ≡ sender.max - size query [] → sender.max ≡ max → IsBlocked (size query) max (with_soa_again records) (start + 1)
blocked_next sender query records start room max full run within room_is same =
    let there = element_at records start within in
    let r : Record = there.0 in
    let N : Option Record → Type 0 = λ next. IfSome next (FitsNotBehind (size query) sender.max full.groups) in
    let nowhere : FitsNowhere sender query (take start records) r = record {
      groups = full.groups;
      cut = full.cut;
      behind = subst N there.1 full.behind;
      alone = omega (arith, size-push query [] r, next_octets records start r there.1, run.full within, room_is);
    } in
    record_blocked sender query records start r max nowhere there.1 same
