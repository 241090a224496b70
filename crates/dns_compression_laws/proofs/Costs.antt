-- What names take as more suffixes are written before them.
use Rattle.std.proofs.Common.{◌≡◌, ℕ, ◌≤◌, ◌+◌, ◌⊎◌, inl, inr, Bool, true, false, ◌||◌, List, [], ◌∷◌, ◌++◌, length, refl, sym, ap, ◌∙◌, arith}
use Rattle.std.specs.Prelude.{if◌then◌else◌}
use Rattle.std.proofs.lemmas.Bool.{or_cases, or_left, or_right, or_parts, true≢false, false≢true, cases_Bool, both_ways}
use mathlib.Core.Path.{fun_ext}
use Rattle.dns_compression_laws.specs.Cost.{Sameness, is_suffix_of, has_stood, name_cost, cost}
use Rattle.dns_compression_laws.proofs.Sameness.{IsSameness}

-- which suffixes are written before
abbrev pub Test : Type 0
Test = List (List ℕ) → Bool

-- those of a name, too
abbrev pub with_name : Sameness → Test → List (List ℕ) → Test
with_name same f name = λ x. is_suffix_of same x name || f x

-- one more
abbrev pub with_one : Sameness → Test → List (List ℕ) → Test
with_one same f s = λ x. same s x || f x

abbrev pub cost_by : Sameness → Test → List (List (List ℕ)) → ℕ
cost_by same f [] = 0
cost_by same f (name ∷ names) = name_cost f name + cost_by same (with_name same f name) names

pub cost_is : (same : Sameness) (seen names : List (List (List ℕ))) → cost same seen names ≡ cost_by same (has_stood same seen) names
cost_is same seen [] = refl
cost_is same seen (name ∷ names) = ap (λ (k : ℕ). name_cost (has_stood same seen) name + k) (cost_is same (name ∷ seen) names)

-- it takes equal suffixes alike
abbrev pub Respects : Sameness → Test → Type 0
Respects same f = (a b : List (List ℕ)) → same a b ≡ true → f a ≡ f b

-- if a suffix is written, so are its parents
abbrev pub IsClosed : Test → Type 0
IsClosed f = (l m : List ℕ) (p : List (List ℕ)) → f (l ∷ m ∷ p) ≡ true → f (m ∷ p) ≡ true

or_swap : (a b c : Bool) → (a || (b || c)) ≡ (b || (a || c))
or_swap true true c = refl
or_swap true false c = refl
or_swap false b c = refl

or_regroup : (a b c : Bool) → (a || (b || c)) ≡ ((a || b) || c)
or_regroup true b c = refl
or_regroup false b c = refl

or_absorb : (a b c : Bool) → (b ≡ true → (a || c) ≡ true) → (a || (b || c)) ≡ (a || c)
or_absorb true b c h = refl
or_absorb false true c h = sym (h refl)
or_absorb false false c h = refl

-- the first label of a suffix that is new
abbrev pub new_cost : Bool → ℕ → ℕ
new_cost known long = if known then 0 else 1 + long

-- a name, with one more suffix written before it
one_step : (a b c : Bool) (j k x y : ℕ) → (b ≡ true → c ≡ a) → (b ≡ true → j ≡ k) → (b ≡ true → x ≤ 2) → x ≤ new_cost c j + y
    → (if a then 2 else 1 + k + x) ≤ new_cost c j + (if (b || a) then 2 else 1 + k + y)
one_step true true c j k x y e long short less = omega arith
one_step true false c j k x y e long short less = omega arith
one_step false true true j k x y e long short less = absurd (true≢false (e refl))
one_step false true false j k x y e long short less = omega (arith, long refl, short refl)
one_step false false c j k x y e long short less = omega arith

-- a suffix and its parent, as names before others
whole_step : (a b : Bool) (k x : ℕ) → (a ≡ true → b ≡ true) → (a ≡ true → x ≤ 2) → x + new_cost b k ≤ (if a then 2 else 1 + k + x)
whole_step true true k x e short = omega (arith, short refl)
whole_step true false k x e short = absurd (false≢true (e refl))
whole_step false true k x e short = omega arith
whole_step false false k x e short = omega arith

module _ (same : Sameness) (h : IsSameness same) where
  same_right : (x a b : List (List ℕ)) → same a b ≡ true → same x a ≡ same x b
  same_right x a b e = h.turns x a ∙ h.follows a b x e ∙ h.turns b x

  pub suffix_same : (a b name : List (List ℕ)) → same a b ≡ true → is_suffix_of same a name ≡ is_suffix_of same b name
  suffix_same a b [] e = refl
  suffix_same a b (l ∷ p) e = λ i. same_right (l ∷ p) a b e i || suffix_same a b p e i

  pub respects-with_name : (f : Test) (name : List (List ℕ)) → Respects same f → Respects same (with_name same f name)
  respects-with_name f name r a b e = λ i. suffix_same a b name e i || r a b e i

  pub respects-with_one : (f : Test) (s : List (List ℕ)) → Respects same f → Respects same (with_one same f s)
  respects-with_one f s r a b e = λ i. same_right s a b e i || r a b e i

  -- a name is a suffix of itself
  pub suffix_self : (l : List ℕ) (p : List (List ℕ)) → is_suffix_of same (l ∷ p) (l ∷ p) ≡ true
  suffix_self l p = or_left (same (l ∷ p) (l ∷ p)) _ (h.self (l ∷ p))

  -- what is the same as a suffix of a name has its parent among them
  parent_first : (k l m : List ℕ) (p q : List (List ℕ)) → same (k ∷ q) (l ∷ m ∷ p) ≡ true → is_suffix_of same (m ∷ p) q ≡ true
  parent_first k l m p [] e = absurd (both_ways (same [] (m ∷ p)) (h.root m p) (h.parents k l [] (m ∷ p) e).1)
  parent_first k l m p (n ∷ q) e = or_left (same (n ∷ q) (m ∷ p)) _ (h.parents k l (n ∷ q) (m ∷ p) e).1

  pub suffix_parent : (l m : List ℕ) (p name : List (List ℕ)) → is_suffix_of same (l ∷ m ∷ p) name ≡ true → is_suffix_of same (m ∷ p) name ≡ true
  suffix_parent l m p [] e = absurd (false≢true e)
  suffix_parent l m p (k ∷ q) e =
      elim (or_cases (same (k ∷ q) (l ∷ m ∷ p)) _ e) [
        | inl here ↦ or_right (same (k ∷ q) (m ∷ p)) _ (parent_first k l m p q here)
        | inr there ↦ or_right (same (k ∷ q) (m ∷ p)) _ (suffix_parent l m p q there)
      ]

  pub closed-with_name : (f : Test) (name : List (List ℕ)) → IsClosed f → IsClosed (with_name same f name)
  closed-with_name f name c l m p e =
      elim (or_cases (is_suffix_of same (l ∷ m ∷ p) name) _ e) [
        | inl own ↦ or_left (is_suffix_of same (m ∷ p) name) _ (suffix_parent l m p name own)
        | inr there ↦ or_right (is_suffix_of same (m ∷ p) name) _ (c l m p there)
      ]

  -- a name that is written before, and what is the same as one of its suffixes
  pub covered : (f : Test) → Respects same f → IsClosed f → (x : List (List ℕ)) (l : List ℕ) (p : List (List ℕ)) → f (l ∷ p) ≡ true → is_suffix_of same x (l ∷ p) ≡ true → f x ≡ true
  covered f r c x l [] there e =
      elim (or_cases (same (l ∷ []) x) false e) [
        | inl here ↦ sym (r (l ∷ []) x here) ∙ there
        | inr none ↦ absurd (false≢true none)
      ]
  covered f r c x l (m ∷ p) there e =
      elim (or_cases (same (l ∷ m ∷ p) x) _ e) [
        | inl here ↦ sym (r (l ∷ m ∷ p) x here) ∙ there
        | inr after ↦ covered f r c x m p (c l m p there) after
      ]

  -- what remains of a name after its first label takes at most two octets
  short_parent : (f : Test) → Respects same f → (p q : List (List ℕ)) → (p ≡ []) ⊎ (f p ≡ true) → same p q ≡ true → name_cost f q ≤ 2
  short_parent f r p [] known e = omega arith
  short_parent f r p (m ∷ q) (inl none) e = absurd (both_ways (same [] (m ∷ q)) (h.root m q) (rw none at e))
  short_parent f r p (m ∷ q) (inr there) e = let t : f (m ∷ q) ≡ true = sym (r p (m ∷ q) e) ∙ there in rw t (omega arith)

  one_more : (f : Test) → Respects same f → (l : List ℕ) (p : List (List ℕ)) → (p ≡ []) ⊎ (f p ≡ true) → (name : List (List ℕ))
      → name_cost f name ≤ new_cost (f (l ∷ p)) (length l) + name_cost (with_one same f (l ∷ p)) name
  one_more f r l p known [] = omega arith
  one_more f r l p known (m ∷ q) =
      one_step (f (m ∷ q)) (same (l ∷ p) (m ∷ q)) (f (l ∷ p)) (length l) (length m) (name_cost f q) (name_cost (with_one same f (l ∷ p)) q)
      (λ e. r (l ∷ p) (m ∷ q) e) (λ e. (h.parents l m p q e).0) (λ e. short_parent f r p q known (h.parents l m p q e).1)
      (one_more f r l p known q)

  -- a name without the suffix takes the same
  unused : (f : Test) (s name : List (List ℕ)) → is_suffix_of same s name ≡ false → name_cost (with_one same f s) name ≡ name_cost f name
  unused f s [] e = refl
  unused f s (m ∷ q) e =
      let none = or_parts (same (m ∷ q) s) (is_suffix_of same s q) e in
      let turned : same s (m ∷ q) ≡ false = h.turns s (m ∷ q) ∙ none.0 in
      rw turned (ap (λ (k : ℕ). if f (m ∷ q) then 2 else 1 + length m + k) (unused f s q none.1))

  swapped : (f : Test) (s name : List (List ℕ)) → with_name same (with_one same f s) name ≡ with_one same (with_name same f name) s
  swapped f s name = fun_ext (λ x. or_swap (is_suffix_of same x name) (same s x) (f x))

  absorbed : (f : Test) → Respects same f → (s name : List (List ℕ)) → (is_suffix_of same s name || f s) ≡ true → with_name same (with_one same f s) name ≡ with_name same f name
  absorbed f r s name e = fun_ext (λ x. or_absorb (is_suffix_of same x name) (same s x) (f x) (λ here. sym (respects-with_name f name r s x here) ∙ e))

  -- one more suffix written before saves no more than its first label
  pub one_before : (f : Test) → Respects same f → (l : List ℕ) (p : List (List ℕ)) → (p ≡ []) ⊎ (f p ≡ true) → (names : List (List (List ℕ)))
      → cost_by same f names ≤ new_cost (f (l ∷ p)) (length l) + cost_by same (with_one same f (l ∷ p)) names
  one_before f r l p known [] = omega arith
  one_before f r l p known (name ∷ names) =
      test_case (cases_Bool (is_suffix_of same (l ∷ p) name || f (l ∷ p)))
      (one_before (with_name same f name) (respects-with_name f name r) l p (known_more known) names)
    where
      known_more : (p ≡ []) ⊎ (f p ≡ true) → (p ≡ []) ⊎ ((is_suffix_of same p name || f p) ≡ true)
      known_more (inl none) = inl none
      known_more (inr there) = inr (or_right (is_suffix_of same p name) _ there)

      test_case : ((is_suffix_of same (l ∷ p) name || f (l ∷ p)) ≡ true) ⊎ ((is_suffix_of same (l ∷ p) name || f (l ∷ p)) ≡ false)
          → cost_by same (with_name same f name) names ≤ new_cost (is_suffix_of same (l ∷ p) name || f (l ∷ p)) (length l) + cost_by same (with_one same (with_name same f name) (l ∷ p)) names
          → name_cost f name + cost_by same (with_name same f name) names
          ≤ new_cost (f (l ∷ p)) (length l) + (name_cost (with_one same f (l ∷ p)) name + cost_by same (with_name same (with_one same f (l ∷ p)) name) names)
      test_case (inl there) on =
          let e = ap (λ (g : Test). cost_by same g names) (absorbed f r (l ∷ p) name there) in
          omega (arith, one_more f r l p known name, e)
      test_case (inr none) on =
          let parts = or_parts (is_suffix_of same (l ∷ p) name) (f (l ∷ p)) none in
          let known_not = parts.1 in
          let e = ap (λ (g : Test). cost_by same g names) (swapped f (l ∷ p) name) in
          let fewer = rw none at on in
          rw known_not (omega (arith, unused f (l ∷ p) name parts.0, e))

  -- a name before others saves no more than it takes
  pub name_before : (f : Test) → Respects same f → IsClosed f → (name : List (List ℕ)) (names : List (List (List ℕ)))
      → cost_by same f names ≤ name_cost f name + cost_by same (with_name same f name) names
  name_before f r c [] names = omega arith
  name_before f r c (l ∷ p) names =
      let before = name_before f r c p names in
      let one = one_before (with_name same f p) (respects-with_name f p r) l p (own p) names in
      let e = ap (λ (g : Test). cost_by same g names) (fun_ext {f = with_one same (with_name same f p) (l ∷ p)} {g = with_name same f (l ∷ p)} (λ x. or_regroup (same (l ∷ p) x) (is_suffix_of same x p) (f x))) in
      let step = whole_step (f (l ∷ p)) (with_name same f p (l ∷ p)) (length l) (name_cost f p) (λ there. or_right (is_suffix_of same (l ∷ p) p) _ there) (λ there. short p there) in
      omega arith
    where
      own : (q : List (List ℕ)) → (q ≡ []) ⊎ (with_name same f q q ≡ true)
      own [] = inl refl
      own (m ∷ q) = inr (or_left (is_suffix_of same (m ∷ q) (m ∷ q)) _ (suffix_self m q))

      short : (q : List (List ℕ)) → f (l ∷ q) ≡ true → name_cost f q ≤ 2
      short [] there = omega arith
      short (m ∷ q) there = let t = c l m q there in rw t (omega arith)

  -- so do names
  pub names_before : (f : Test) → Respects same f → IsClosed f → (more names : List (List (List ℕ)))
      → cost_by same f names ≤ cost_by same f (more ++ names)
  names_before f r c [] names = omega arith
  names_before f r c (name ∷ more) names =
      let one = name_before f r c name names in
      let rest = names_before (with_name same f name) (respects-with_name f name r) (closed-with_name f name c) more names in
      omega arith
