-- Entries whose keys ascend are sorted once each run of equal keys is.
use Rattle.std.proofs.Common.{◌≡◌, ◌≢◌, ◌<◌, ◌≤◌, ◌+◌, ◌-◌, ℕ, false, List, ◌++◌, get_or, length, take, drop, refl, sym, ap, ◌∙◌, arith, inl, inr}
use borrow.Rule.Slice.PartMut.{mid_of, post_of, put_mid}
use Rattle.std.specs.List.{All}
use Rattle.std.specs.List.Sorted.{IsNonDecreasingBy, IsPermutation, IsSorted}
use Rattle.std.specs.Ordering.{is_lt, nat_cmp, ordering_then}
use Rattle.std.specs.declared.cmp.Ordering.TheVariants.{Less, Equal, Greater}
use Rattle.std.proofs.lemmas.Bool.{cases_lt}
use Rattle.std.proofs.lemmas.Cmp.{ranked}
use Rattle.std.proofs.lemmas.List.{get_or_append_left, get_or-append_right, get_or-drop, get_or-take, get_or_default, length-drop, length-take-le}
use Rattle.std.proofs.lemmas.List.Sorted.{All-permutation, IsPermutation-put_mid, length_permutation}
use Rattle.zone_canonical.specs.Canonical.{canonical_cmp}
use Rattle.zone_canonical.specs.Keyed.{EndsTie, Keyed, keyed_cmp}

abbrev key_in : Keyed → ℕ
key_in entry = entry.key

-- an entry is not less than the one before it
abbrev pub IsNext : List Keyed → ℕ → Keyed → Type 0
IsNext xs k d = is_lt (keyed_cmp (get_or xs (k + 1) d) (get_or xs k d)) ≡ false

-- below a place, entries with one key are in order; the key there is not the one before it
pub record AreTied (xs : List Keyed) (n : ℕ) : Type 0 where
  pub rise : IsNonDecreasingBy (λ (entry : Keyed). entry.key) xs
  pub within : n ≤ length xs
  pub tied : (k : ℕ) (d : Keyed) → k + 1 < n → (get_or xs (k + 1) d).key ≡ (get_or xs k d).key → IsNext xs k d
  pub apart : (k : ℕ) (d : Keyed) → k + 1 ≡ n → n < length xs → (get_or xs n d).key ≢ (get_or xs k d).key

pub none_tied : (xs : List Keyed) → IsNonDecreasingBy (λ (entry : Keyed). entry.key) xs → AreTied xs 0
none_tied xs rise = record {
  rise = rise;
  within = omega arith;
  tied = λ k d few. absurd (omega arith);
  apart = λ k d few. absurd (omega arith);
}

greater_first : (x y : Keyed) → y.key < x.key → is_lt (keyed_cmp x y) ≡ false
unfolding keyed_cmp
greater_first x y less =
    elim (nat_cmp x.key y.key) as (λ o. o ≡ nat_cmp x.key y.key → is_lt (ordering_then o (canonical_cmp x.form y.form)) ≡ false) [
      | Less ↦ λ e. absurd (let low : x.key < y.key = ranked x.key y.key Less e in omega arith)
      | Equal ↦ λ e. absurd (let same : x.key ≡ y.key = ranked x.key y.key Equal e in omega arith)
      | Greater ↦ λ e. refl
    ] refl

-- all runs are in order, so the list is
pub all_tied : (xs : List Keyed) (n : ℕ) → length xs ≤ n → AreTied xs n → IsSorted keyed_cmp xs
all_tied xs n whole are k d from to =
    let x = get_or xs (k + 1) d in
    let y = get_or xs k d in
    let rise : y.key ≤ x.key = are.rise k (k + 1) d (omega arith) to in
    elim (cases_lt y.key x.key) [
      | inl less ↦ greater_first x y less
      | inr last ↦ are.tied k d (omega arith) (omega arith)
    ]

-- a run of one entry
pub one_tied : (xs : List Keyed) (a e : ℕ) → EndsTie xs a e → e - a ≤ 1 → AreTied xs a → AreTied xs e
one_tied xs a e ends one are = record {
  rise = are.rise;
  within = ends.within;
  tied = tied';
  apart = λ k d last few same.
      let at : k ≡ a = omega (arith, ends.after) in
      ends.apart d few (same ∙ ap (λ n. (get_or xs n d).key) at);
}
  where
    tied' : (k : ℕ) (d : Keyed) → k + 1 < e → (get_or xs (k + 1) d).key ≡ (get_or xs k d).key → IsNext xs k d
    tied' k d few same = elim (cases_lt (k + 1) a) [
      | inl lower ↦ are.tied k d lower same
      | inr last ↦
          let at : k + 1 ≡ a = omega (arith, ends.after) in
          absurd (are.apart k d at (omega (arith, ends.after, ends.within)) (sym (ap (λ n. (get_or xs n d).key) at) ∙ same))
    ]

-- a run is sorted
module _ (xs ys : List Keyed) (a e : ℕ) (ends : EndsTie xs a e) (moved : IsPermutation (mid_of a (e - a) xs) ys) where
  abbrev new : List Keyed
  new = put_mid a (e - a) xs ys

  first_long : length (take a xs) ≡ a
  first_long = length-take-le a xs (omega (arith, ends.after, ends.within))

  mid_long : length (mid_of a (e - a) xs) ≡ e - a
  mid_long = length-take-le (e - a) (drop a xs) (omega (arith, length-drop a xs, ends.after, ends.within))

  part_long : length ys ≡ e - a
  part_long = length_permutation (mid_of a (e - a) xs) ys moved ∙ mid_long

  before : (k : ℕ) (d : Keyed) → k < a → get_or new k d ≡ get_or xs k d
  before k d less =
      get_or_append_left (take a xs) (ys ++ post_of a (e - a) xs) d k (omega (arith, first_long)) ∙ get_or-take a xs k d less

  inside : (k : ℕ) (d : Keyed) → a ≤ k → k < e → get_or new k d ≡ get_or ys (k - a) d
  inside k d from to =
      get_or-append_right (take a xs) (ys ++ post_of a (e - a) xs) a k d first_long from
      ∙ get_or_append_left ys (post_of a (e - a) xs) d (k - a) (omega (arith, part_long))

  after : (k : ℕ) (d : Keyed) → e ≤ k → get_or new k d ≡ get_or xs k d
  after k d from =
      let there : e - a + (k - a - (e - a)) ≡ k - a = omega (arith, ends.after) in
      let back : a + (k - a) ≡ k = omega (arith, ends.after) in
      get_or-append_right (take a xs) (ys ++ post_of a (e - a) xs) a k d first_long (omega (arith, ends.after))
      ∙ get_or-append_right ys (post_of a (e - a) xs) (e - a) (k - a) d part_long (omega (arith, ends.after))
      ∙ get_or-drop (e - a) (drop a xs) (k - a - (e - a)) d
      ∙ ap (λ n. get_or (drop a xs) n d) there
      ∙ get_or-drop a xs (k - a) d
      ∙ ap (λ n. get_or xs n d) back

  -- all entries of the run have its key
  part_keys : (d : Keyed) → All (λ (entry : Keyed). entry.key ≡ (get_or xs a d).key) ys
  part_keys d = All-permutation (λ (entry : Keyed). entry.key ≡ (get_or xs a d).key) (mid_of a (e - a) xs) ys moved
      (λ k e' less.
      let short : k < e - a = omega (arith, mid_long) in
      ap key_in (get_or-take (e - a) (drop a xs) k e' short ∙ get_or-drop a xs k e')
      ∙ ends.alike (a + k) e' (omega arith) (omega arith)
      ∙ ap key_in (get_or_default xs a e' d (omega (arith, ends.after, ends.within))))

  -- so each place has the key that it had
  keys : (k : ℕ) (d : Keyed) → (get_or new k d).key ≡ (get_or xs k d).key
  keys k d = elim (cases_lt k a) [
    | inl less ↦ ap key_in (before k d less)
    | inr from ↦ elim (cases_lt k e) [
      | inl to ↦ ap key_in (inside k d from to) ∙ part_keys d (k - a) d (omega (arith, part_long)) ∙ sym (ends.alike k d from to)
      | inr over ↦ ap key_in (after k d over)
    ]
  ]

  new_long : length new ≡ length xs
  new_long = length_permutation xs new (IsPermutation-put_mid a (e - a) xs ys moved)

  pub run_tied : AreTied xs a → IsSorted keyed_cmp ys → AreTied new e
  run_tied are sorted = record {
    rise = λ i j d le lt. omega (arith, keys i d, keys j d, are.rise i j d le (omega (arith, new_long)));
    within = omega (arith, new_long, ends.within);
    tied = tied';
    apart = λ k d last few same.
        ends.apart d (omega (arith, new_long))
        (sym (keys e d) ∙ same ∙ keys k d ∙ ends.alike k d (omega (arith, ends.after)) (omega arith));
  }
    where
      tied' : (k : ℕ) (d : Keyed) → k + 1 < e → (get_or new (k + 1) d).key ≡ (get_or new k d).key → IsNext new k d
      tied' k d few same = elim (cases_lt k a) [
        | inl less ↦ elim (cases_lt (k + 1) a) [
          | inl lower ↦
              (λ i. is_lt (keyed_cmp (before (k + 1) d lower i) (before k d less i))) ∙ are.tied k d lower (sym (keys (k + 1) d) ∙ same ∙ keys k d)
          | inr last ↦
              let at : k + 1 ≡ a = omega arith in
              let here = ap (λ n. (get_or xs n d).key) at in
              absurd (are.apart k d at (omega (arith, ends.after, ends.within)) (sym here ∙ sym (keys (k + 1) d) ∙ same ∙ keys k d))
        ]
        | inr from ↦
            let at : k + 1 - a ≡ k - a + 1 = omega arith in
            (λ i. is_lt (keyed_cmp (inside (k + 1) d (omega arith) few i) (inside k d from (omega arith) i)))
            ∙ ap (λ n. is_lt (keyed_cmp (get_or ys n d) (get_or ys (k - a) d))) at
            ∙ sorted (k - a) d (omega arith) (omega (arith, part_long))
      ]
