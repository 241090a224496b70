use Rattle.std.proofs.Common.{List, subst, sym, ◌∙◌, rules}
use Rattle.std.specs.List.Sorted.{IsNonDecreasingBy, IsPermutation, IsSorted}
use Rattle.std.proofs.lemmas.List.{with_items_is}
use Rattle.std.proofs.lemmas.List.Sorted.{IsNonDecreasingBy-from_sort_by_key, IsPermutation-refl, IsPermutation-trans, length_permutation}
use Rattle.zone_canonical.specs.Keyed.{Keyed, keyed_cmp}
use Rattle.zone_canonical.proofs.SortedKeys.{in_order}
use Rattle.zone_canonical.proofs.entries.sort.Goals as goal

pub returns-then-is_sorted-clause-permutation : goal.returns-then-is_sorted-clause-permutation
returns-then-is_sorted-clause-permutation c = IsPermutation-refl c.args.entries.now.items

pub returns-then-is_sorted-clause-sorted : goal.returns-then-is_sorted-clause-sorted
returns-then-is_sorted-clause-sorted c =
    subst (λ (l : List Keyed). IsSorted keyed_cmp l) c.deref.ensures.value
    (in_order c.deref.result.now c.is_sorted.result c.is_sorted.ensures.cases c.if-is_sorted.true)

pub sort_ties-requires : goal.sort_ties-requires
sort_ties-requires c =
    let rise = IsNonDecreasingBy-from_sort_by_key (λ (entry : Keyed). entry.key) c.sort_unstable_by_key.new.self.items c.sort_unstable_by_key.ensures.sorted (λ a r q k. search rules) in
    subst (IsNonDecreasingBy (λ (entry : Keyed). entry.key)) (sym c.as_mut_slice.ensures.value) rise

pub returns-clause-permutation : goal.returns-clause-permutation
returns-clause-permutation c =
    let by_key = c.sort_unstable_by_key.new.self in
    let tied = c.sort_ties.new.entries in
    let moved = c.sort_ties.ensures.permutation in
    let same = with_items_is by_key tied (length_permutation c.as_mut_slice.result.now tied moved ∙ c.as_mut_slice.ensures.len) in
    subst (IsPermutation c.args.entries.now.items) (sym same)
    (IsPermutation-trans c.args.entries.now.items by_key.items tied c.sort_unstable_by_key.ensures.permutation
    (subst (λ (l : List Keyed). IsPermutation l tied) c.as_mut_slice.ensures.value moved))

pub returns-clause-sorted : goal.returns-clause-sorted
returns-clause-sorted c =
    let by_key = c.sort_unstable_by_key.new.self in
    let tied = c.sort_ties.new.entries in
    let same = with_items_is by_key tied (length_permutation c.as_mut_slice.result.now tied c.sort_ties.ensures.permutation ∙ c.as_mut_slice.ensures.len) in
    subst (λ (l : List Keyed). IsSorted keyed_cmp l) (sym same) c.sort_ties.ensures.sorted
