-- What a merge of two ascending lists of canonical forms finds.
use Rattle.std.proofs.Common.{◌≡◌, ◌⊎◌, List, [], ◌∷◌, refl, sym, ap, ◌∙◌, subst, inl, inr, ⊎_elim}
use Rattle.std.specs.List.{AllByRecursion, Contains}
use Rattle.std.specs.List.Sorted.{IsStrictlySortedBy}
use Rattle.std.specs.Ordering.{is_eq, on, ordering_reverse}
use Rattle.std.specs.declared.cmp.Ordering.{Ordering}
use Rattle.std.specs.declared.cmp.Ordering.TheVariants.{Less, Equal, Greater}
use Rattle.zone_records.specs.Record.{Record}
use Rattle.zone_canonical.specs.Canonical.{canonical_cmp}
use Rattle.zone_canonical.specs.CanonicalLaws.{canonical_total}
use Rattle.zone_canonical.specs.Changes.{changed}
use Rattle.zone_canonical.specs.Merge.{by_order, merged}
use Rattle.zone_canonical.specs.declared.change_list.Change.{Change}
use Rattle.zone_canonical.specs.declared.change_list.Change.TheVariants.{Added, Removed}
use Rattle.zone_canonical.proofs.Ascending.{all_in, contains_cases, contains_first, contains_more, never_below}
use Rattle.zone_canonical.proofs.Forms.{tied_forms}
use Rattle.zone_canonical.proofs.SortedForms.{IsLow, all_weaker}

-- the form comes before each of the others
abbrev IsBelow : Record → List Record → Type 0
IsBelow form others = AllByRecursion (λ other. canonical_cmp form other ≡ Less) others

-- only the first list has what is removed, and only the second what is added
abbrev pub Differs : List Record → List Record → Change → Type 0
Differs olds news (Removed form) = Contains olds form × (Contains news form → ⊥)
Differs olds news (Added form) = Contains news form × (Contains olds form → ⊥)

abbrev pub IsLeft : List Record → List Change → (Record → Change) → Record → Type 0
IsLeft others changes change form = Contains others form ⊎ Contains changes (change form)

pub record IsMerge (olds news : List Record) (changes : List Change) : Type 0 where
  pub above : (form : Record) → IsBelow form olds → IsBelow form news → AllByRecursion (λ change. canonical_cmp form (changed change) ≡ Less) changes
  pub ascend : IsStrictlySortedBy (on changed canonical_cmp) changes
  pub only : AllByRecursion (Differs olds news) changes
  pub removed : AllByRecursion (IsLeft news changes Removed) olds
  pub added : AllByRecursion (IsLeft olds changes Added) news

-- a form that comes before all others is none of them
not_among : (form : Record) (others : List Record) → IsBelow form others → Contains others form → ⊥
not_among form others below has =
    never_below canonical_total form (all_in (λ other. canonical_cmp form other ≡ Less) others form below has)

not_in_more : (form other : Record) (forms others : List Record) → IsBelow form others → Contains others other → (Contains forms other → ⊥)
    → Contains (form ∷ forms) other → ⊥
not_in_more form other forms others below has apart has' =
    ⊎_elim (λ same. not_among form others below (subst (Contains others) (sym same) has)) apart (contains_cases form other forms has')

left_more : (first form : Record) (others : List Record) (changes : List Change) (change : Record → Change) → IsLeft others changes change form
    → IsLeft (first ∷ others) changes change form
left_more first form others changes change left = ⊎_elim (λ has. inl (contains_more first form others has)) (λ has. inr has) left

change_more : (first : Change) (form : Record) (others : List Record) (changes : List Change) (change : Record → Change)
    → IsLeft others changes change form → IsLeft others (first ∷ changes) change form
change_more first form others changes change left =
    ⊎_elim (λ has. inl has) (λ has. inr (contains_more first (change form) changes has)) left

differs_old : (form : Record) (olds news : List Record) → IsBelow form news → (change : Change) → Differs olds news change
    → Differs (form ∷ olds) news change
differs_old form olds news below (Removed other) differs = (contains_more form other olds differs.0, differs.1)
differs_old form olds news below (Added other) differs = (differs.0, not_in_more form other olds news below differs.0 differs.1)

differs_new : (form : Record) (olds news : List Record) → IsBelow form olds → (change : Change) → Differs olds news change
    → Differs olds (form ∷ news) change
differs_new form olds news below (Removed other) differs = (differs.0, not_in_more form other news olds below differs.0 differs.1)
differs_new form olds news below (Added other) differs = (contains_more form other news differs.0, differs.1)

differs_both : (form : Record) (olds news : List Record) → IsBelow form olds → IsBelow form news → (change : Change) → Differs olds news change
    → Differs (form ∷ olds) (form ∷ news) change
differs_both form olds news below below' (Removed other) differs =
    (contains_more form other olds differs.0, not_in_more form other news olds below differs.0 differs.1)
differs_both form olds news below below' (Added other) differs =
    (contains_more form other news differs.0, not_in_more form other olds news below' differs.0 differs.1)

-- a form that comes first, of the old list alone
merge_old : (form : Record) (olds news : List Record) (changes : List Change) → IsBelow form olds → IsBelow form news → IsMerge olds news changes
    → IsMerge (form ∷ olds) news (Removed form ∷ changes)
unfolding IsStrictlySortedBy
merge_old form olds news changes below below' is = record {
  above = λ first up up'. (up.0, is.above first up.1 up');
  ascend = (is.above form below below', is.ascend);
  only = (
    (contains_first form olds, not_among form news below'),
    all_weaker (Differs olds news) (Differs (form ∷ olds) news) (differs_old form olds news below') changes is.only,
  );
  removed = (
    inr (contains_first (Removed form) changes),
    all_weaker (IsLeft news changes Removed) (IsLeft news (Removed form ∷ changes) Removed)
        (λ other. change_more (Removed form) other news changes Removed) olds is.removed,
  );
  added = all_weaker (IsLeft olds changes Added) (IsLeft (form ∷ olds) (Removed form ∷ changes) Added)
      (λ other left. left_more form other olds (Removed form ∷ changes) Added (change_more (Removed form) other olds changes Added left)) news is.added;
}

-- of the new list alone
merge_new : (form : Record) (olds news : List Record) (changes : List Change) → IsBelow form olds → IsBelow form news → IsMerge olds news changes
    → IsMerge olds (form ∷ news) (Added form ∷ changes)
unfolding IsStrictlySortedBy
merge_new form olds news changes below below' is = record {
  above = λ first up up'. (up'.0, is.above first up up'.1);
  ascend = (is.above form below below', is.ascend);
  only = (
    (contains_first form news, not_among form olds below),
    all_weaker (Differs olds news) (Differs olds (form ∷ news)) (differs_new form olds news below) changes is.only,
  );
  removed = all_weaker (IsLeft news changes Removed) (IsLeft (form ∷ news) (Added form ∷ changes) Removed)
      (λ other left. left_more form other news (Added form ∷ changes) Removed (change_more (Added form) other news changes Removed left)) olds is.removed;
  added = (
    inr (contains_first (Added form) changes),
    all_weaker (IsLeft olds changes Added) (IsLeft olds (Added form ∷ changes) Added)
        (λ other. change_more (Added form) other olds changes Added) news is.added,
  );
}

-- of both
merge_both : (form : Record) (olds news : List Record) (changes : List Change) → IsBelow form olds → IsBelow form news → IsMerge olds news changes
    → IsMerge (form ∷ olds) (form ∷ news) changes
merge_both form olds news changes below below' is = record {
  above = λ first up up'. is.above first up.1 up'.1;
  ascend = is.ascend;
  only = all_weaker (Differs olds news) (Differs (form ∷ olds) (form ∷ news)) (differs_both form olds news below below') changes is.only;
  removed = (
    inl (contains_first form news),
    all_weaker (IsLeft news changes Removed) (IsLeft (form ∷ news) changes Removed)
        (λ other. left_more form other news changes Removed) olds is.removed,
  );
  added = (
    inl (contains_first form olds),
    all_weaker (IsLeft olds changes Added) (IsLeft (form ∷ olds) changes Added)
        (λ other. left_more form other olds changes Added) news is.added,
  );
}

-- a form before the first of others that ascend is before all of them
below_more : (form first : Record) (others : List Record) → canonical_cmp form first ≡ Less → IsBelow first others → IsBelow form others
below_more form first others less below =
    all_weaker (λ other. canonical_cmp first other ≡ Less) (λ other. canonical_cmp form other ≡ Less)
    (λ other more. canonical_total.trans form first other less more) others below

abbrev pub same : Record → Record
same form = form

pub is_merge : (olds news : List Record) → IsStrictlySortedBy canonical_cmp olds → IsStrictlySortedBy canonical_cmp news
    → AllByRecursion IsLow olds → AllByRecursion IsLow news → IsMerge olds news (merged canonical_cmp same olds news)
unfolding merged IsStrictlySortedBy
is_merge [] [] up up' low low' = record { above = λ form below below'. tt; ascend = tt; only = tt; removed = tt; added = tt }
is_merge [] (y ∷ news) up up' low low' = merge_new y [] news (merged canonical_cmp same [] news) tt up'.0 (is_merge [] news tt up'.1 tt low'.1)
is_merge (x ∷ olds) [] up up' low low' = merge_old x olds [] (merged canonical_cmp same olds []) up.0 tt (is_merge olds [] up.1 tt low.1 tt)
is_merge (x ∷ olds) (y ∷ news) up up' low low' =
    let less = merged canonical_cmp same olds (y ∷ news) in
    let equal = merged canonical_cmp same olds news in
    let greater = merged canonical_cmp same (x ∷ olds) news in
    elim (canonical_cmp x y) as (λ o. canonical_cmp x y ≡ o → IsMerge (x ∷ olds) (y ∷ news) (by_order o (Removed x ∷ less) equal (Added y ∷ greater))) [
      | Less ↦ λ e. merge_old x olds (y ∷ news) less up.0 (e, below_more x y news e up'.0) (is_merge olds (y ∷ news) up.1 up' low.1 low')
      | Equal ↦ λ e.
          let one : x ≡ y = tied_forms x y low.0 low'.0 (ap is_eq e) in
          subst (λ form. IsMerge (x ∷ olds) (form ∷ news) equal) one
          (merge_both x olds news equal up.0 (subst (λ form. IsBelow form news) (sym one) up'.0) (is_merge olds news up.1 up'.1 low.1 low'.1))
      | Greater ↦ λ e.
          let first : canonical_cmp y x ≡ Less = canonical_total.antisymm y x ∙ ap ordering_reverse e in
          merge_new y (x ∷ olds) news greater (first, below_more y x olds first up.0) up'.0 (is_merge (x ∷ olds) news up up'.1 low low'.1)
    ] refl
