-- The number of the records of each type.
use Rattle.std.proofs.Common.{◌≡◌, ◌<◌, ◌≤◌, ◌+◌, ◌⊎◌, inl, inr, ⊎_elim, ℕ, zero, suc, Bool, true, false, Result, Ok, Err, Vec, Global, Some, List, [], ◌∷◌, ◌++◌, length, take, refl, sym, ap, ◌∙◌, subst, arith, length-append, length-take, leb}
use Rattle.std.specs.Prelude.{filter, nat_eq, replicate, IfOk, slice_get, slice_index, slice_index_or, slice_set}
use Rattle.std.specs.Prelude.{if◌then◌else◌}
use Rattle.std.specs.List.{AllByRecursion, Contains}
use Rattle.std.specs.Ordering.{nat_cmp, on}
use Rattle.std.specs.Cmp.{nat_cmp_is}
use Rattle.std.specs.declared.cmp.Ordering.TheVariants.{Less}
use Rattle.std.proofs.lemmas.Bool.{eqb-true, eq-eqb, leb-true, leb-false}
use Rattle.std.proofs.lemmas.List.{get_or_default, get_or-set_same, get_or-set_other, length-set}
use Rattle.std.proofs.lemmas.List.Elements.{Contains-append_left, Contains-push, filter-append}
use Rattle.zone_records.specs.Record.{Record}
use Rattle.zone_records.proofs.Indexed.{take-next}
use Rattle.zone_canonical.specs.Canonical.{HasCanonicalForm}
use Rattle.zone_tool.specs.Counting.{AreCounters, AreCountsBelow}
use Rattle.zone_tool.specs.Statistics.{AreTypeCounts, count_of}
use Rattle.zone_tool.specs.declared.statistics.TypeCount.{TypeCount}
use Rattle.zone_tool.proofs.Ascending.{ascend_none, ascend_push}
use Rattle.zone_tool.proofs.Elements.{all_in, all_push, all_weaker, contains_cases, contains_none, itself}

replicate_none : (n place : ℕ) → slice_index (replicate n 0) place ≡ 0
replicate_none zero place = refl
replicate_none (suc n) zero = refl
replicate_none (suc n) (suc place) = replicate_none n place

replicate_long : (n : ℕ) → length {A = ℕ} (replicate n 0) ≡ n
replicate_long zero = refl
replicate_long (suc n) = ap suc (replicate_long n)

counters_none : (n : ℕ) (counters : List ℕ) → n ≡ 65536 → counters ≡ replicate n 0 → AreCounters [] counters
counters_none n counters many is = record {
  long = ap (length {A = ℕ}) is ∙ replicate_long n ∙ many;
  at = λ rtype small. ap (λ l. slice_index l rtype) is ∙ replicate_none n rtype;
}

-- a vector of so many zeros, if there is one
pub counters_fresh : {E : Type 0} (n : ℕ) (result : Result (Vec ℕ Global) E) → n ≡ 65536
    → IfOk result (λ v. ((y : ℕ) → y ≡ 0 → y ≡ 0) → v.items ≡ replicate n 0) → IfOk result (λ v. AreCounters [] v.items)
counters_fresh n (Ok v) many is = counters_none n v.items many (is (λ y e. e))
counters_fresh n (Err error) many is = tt

-- one record more
count_push : (rtype : ℕ) (records : List Record) (r : Record) → count_of rtype (records ++ r ∷ []) ≡ count_of rtype records + (if nat_eq r.rtype rtype then 1 else 0)
count_push rtype records r =
    ap (length {A = Record}) (filter-append (λ (it : Record). nat_eq it.rtype rtype) records (r ∷ []))
    ∙ length-append (filter (λ (it : Record). nat_eq it.rtype rtype) records) (filter (λ (it : Record). nat_eq it.rtype rtype) (r ∷ []))
    ∙ ap (λ n. count_of rtype records + n) (by_case (nat_eq r.rtype rtype))
  where
    by_case : (same : Bool) → length (if same then r ∷ [] else []) ≡ (if same then 1 else 0)
    by_case true = refl
    by_case false = refl

count_more : (rtype : ℕ) (records : List Record) (index : ℕ) (r : Record) → slice_get records index ≡ Some r
    → count_of rtype (take (index + 1) records) ≡ count_of rtype (take index records) + (if nat_eq r.rtype rtype then 1 else 0)
count_more rtype records index r at = ap (count_of rtype) (take-next records index r at) ∙ count_push rtype (take index records) r

pub counters_next : (records : List Record) (index : ℕ) (r : Record) (counters : List ℕ) (counter rtype : ℕ) → slice_get records index ≡ Some r
    → rtype ≡ r.rtype → rtype < 65536 → counter ≡ slice_index counters rtype → AreCounters (take index records) counters
    → AreCounters (take (index + 1) records) (slice_set counters rtype (counter + 1))
counters_next records index r counters counter rtype at is small now h = record {
  long = length-set counters rtype (counter + 1) ∙ h.long;
  at = λ other within.
      elim (nat_eq r.rtype other)
      as (λ b. nat_eq r.rtype other ≡ b → slice_index (slice_set counters rtype (counter + 1)) other ≡ count_of other (take (index + 1) records)) [
        | true ↦ λ same.
            let e : rtype ≡ other = is ∙ eqb-true r.rtype other same in
            subst (λ n. slice_index (slice_set counters rtype (counter + 1)) n ≡ count_of n (take (index + 1) records)) e
            (get_or-set_same counters rtype (counter + 1) 0 (omega (arith, h.long))
            ∙ ap (λ n. n + 1) (now ∙ h.at rtype small)
            ∙ sym (count_more rtype records index r at
            ∙ ap (λ (b : Bool). count_of rtype (take index records) + (if b then 1 else 0)) (eq-eqb r.rtype rtype (sym is))))
        | false ↦ λ apart.
            get_or-set_other counters rtype other (counter + 1) 0
            (λ e. let both : true ≡ false = sym (eq-eqb r.rtype other (sym is ∙ sym e)) ∙ apart in cc)
            ∙ h.at other within
            ∙ sym (count_more other records index r at
            ∙ ap (λ (b : Bool). count_of other (take index records) + (if b then 1 else 0)) apart ∙ (omega arith))
      ] refl;
}

-- a counter, whichever number stands for one that is not there
pub counter_at : (counters : List ℕ) (rtype counter : ℕ) → rtype < 65536 → length counters ≡ 65536 → counter ≡ slice_index_or counters rtype counter
    → counter ≡ slice_index counters rtype
counter_at counters rtype counter small long is = is ∙ get_or_default counters rtype counter 0 (omega (arith, small, long))

count_few : (rtype : ℕ) (records : List Record) → count_of rtype records ≤ length records
count_few rtype [] = omega arith
count_few rtype (r ∷ records) = by_case (nat_eq r.rtype rtype) (count_few rtype records)
  where
    by_case : (same : Bool) → count_of rtype records ≤ length records
        → length (if same then r ∷ filter (λ (it : Record). nat_eq it.rtype rtype) records else filter (λ (it : Record). nat_eq it.rtype rtype) records) ≤ length (r ∷ records)
    by_case true few = omega (arith, few)
    by_case false few = omega (arith, few)

-- a counter is at most the number of the records
pub counter_few : (records : List Record) (index : ℕ) (counters : List ℕ) (rtype : ℕ) → rtype < 65536 → AreCounters (take index records) counters
    → slice_index counters rtype ≤ index
counter_few records index counters rtype small h =
    omega (arith, h.at rtype small, count_few rtype (take index records), length-take index records)

order_or : (a b : ℕ) → a < b + 1 → (a < b) ⊎ (a ≡ b)
order_or a b within =
    elim (leb b a) as (λ v. leb b a ≡ v → (a < b) ⊎ (a ≡ b)) [
      | true ↦ λ e. let least : b ≤ a = leb-true b a e in inr (let same : a ≡ b = omega (arith, within) in same)
      | false ↦ λ e. inl (leb-false b a e)
    ] refl

-- one counter more
pub counts_none : (counters : List ℕ) → AreCountsBelow counters 0 []
counts_none counters = record {
  ascend = ascend_none (on (λ (c : TypeCount). c.rtype) nat_cmp);
  each = tt;
  all = λ rtype below. absurd (omega (arith, below));
}

-- the types of these counters are less than the number
abbrev IsBelow : List ℕ → ℕ → TypeCount → Type 0
IsBelow counters number c = (c.count ≡ slice_index counters c.rtype) × (0 < c.count) × (c.rtype < number)

each_below : (counters : List ℕ) (number : ℕ) (counts : List TypeCount) → AllByRecursion (IsBelow counters number) counts
    → AllByRecursion (IsBelow counters (number + 1)) counts
each_below counters number counts each =
    all_weaker (IsBelow counters number) (IsBelow counters (number + 1)) (λ c is. (is.0, is.1, omega (arith, is.2))) counts each

pub counts_skip : (counters : List ℕ) (number : ℕ) (counts : List TypeCount) → slice_index counters number ≤ 0
    → AreCountsBelow counters number counts → AreCountsBelow counters (number + 1) counts
counts_skip counters number counts nothing h = record {
  ascend = h.ascend;
  each = each_below counters number counts h.each;
  all = λ rtype below some.
      ⊎_elim (λ less. h.all rtype less some) (λ e. absurd (omega (arith, some, nothing, ap (slice_index counters) e))) (order_or rtype number below);
}

pub counts_more : (counters : List ℕ) (number : ℕ) (counts : List TypeCount) (c : TypeCount) → c.rtype ≡ number → c.count ≡ slice_index counters number
    → 0 < c.count → AreCountsBelow counters number counts → AreCountsBelow counters (number + 1) (counts ++ c ∷ [])
counts_more counters number counts c at is some h = record {
  ascend = ascend_push (on (λ (it : TypeCount). it.rtype) nat_cmp) counts c h.ascend
      (all_weaker (IsBelow counters number) (λ it. nat_cmp it.rtype c.rtype ≡ Less)
      (λ it below. sym (nat_cmp_is it.rtype c.rtype Less (omega (arith, below.2, at)))) counts h.each);
  each = all_push (IsBelow counters (number + 1)) counts c (each_below counters number counts h.each)
      (is ∙ ap (slice_index counters) (sym at), some, omega (arith, at));
  all = λ rtype below more.
      ⊎_elim (λ less. let old = h.all rtype less more in (old.0, Contains-append_left counts (c ∷ []) old.0 old.1, old.2))
      (λ e. (c, Contains-push counts c, at ∙ sym e)) (order_or rtype number below);
}

count_some : (rtype : ℕ) (records : List Record) (r : Record) → r.rtype ≡ rtype → Contains records r → 0 < count_of rtype records
count_some rtype [] r is has = absurd (contains_none r has)
count_some rtype (first ∷ records) r is has =
    ⊎_elim
    (λ same. by_true (nat_eq first.rtype rtype) (eq-eqb first.rtype rtype (ap (λ (it : Record). it.rtype) same ∙ is)))
    (λ behind. by_some (nat_eq first.rtype rtype) (count_some rtype records r is behind)) (contains_cases first r records has)
  where
    kept : List Record
    kept = filter (λ (it : Record). nat_eq it.rtype rtype) records

    by_true : (b : Bool) → b ≡ true → 0 < length (if b then first ∷ kept else kept)
    by_true true is = omega arith
    by_true false is = absurd cc

    by_some : (b : Bool) → 0 < length kept → 0 < length (if b then first ∷ kept else kept)
    by_some true some = omega arith
    by_some false some = some

-- the counters that are not 0 are those of the types that the records have
pub type_counts_are : (records : List Record) (counters : List ℕ) (counts : List TypeCount) → AllByRecursion HasCanonicalForm records
    → AreCounters records counters → AreCountsBelow counters 65536 counts → AreTypeCounts records counts
type_counts_are records counters counts lawful are h = record {
  ascend = h.ascend;
  each = all_weaker (IsBelow counters 65536) (λ c. (c.count ≡ count_of c.rtype records) × (0 < c.count))
      (λ c is. (is.0 ∙ are.at c.rtype is.2, is.1)) counts h.each;
  all = all_weaker (Contains records) (λ r. (c : TypeCount) × Contains counts c × (c.rtype ≡ r.rtype))
      (λ r has. let small : r.rtype < 65536 = omega (arith, (all_in HasCanonicalForm records r lawful has).lawful.rtype) in
      h.all r.rtype small (omega (arith, are.at r.rtype small, count_some r.rtype records r refl has))) records (itself records);
}
