-- The cost of names as a sum over their distinct suffixes.
use Rattle.std.proofs.Common.{◌≡◌, ℕ, ◌≤◌, ◌<◌, ◌+◌, Bool, true, false, ◌||◌, List, [], ◌∷◌, ◌++◌, length, refl, sym, ap, ◌∙◌, arith}
use Rattle.std.specs.Prelude.{if◌then◌else◌, flat_map, sum_by}
use Rattle.std.specs.List.{AllByRecursion}
use Rattle.std.proofs.lemmas.Bool.{or_left, or_right, or_parts, false≢true, both_ways}
use Rattle.std.proofs.lemmas.List.Sums.{sum_by-cons}
use mathlib.Core.Path.{fun_ext}
use Rattle.dns_name.specs.Spelling.{Spelling}
use Rattle.dns_name.specs.Page.{Parts}
use Rattle.dns_compression_laws.specs.Cost.{Sameness, same_name, is_suffix_of, has_stood, name_cost, cost, names_in, parts_cost}
use Rattle.dns_compression_laws.specs.CostSum.{own_suffixes, has_same, AreDistinctNames, AreTheSuffixes, first_label, end_octets, ends_cost, suffixes_sum}
use Rattle.dns_compression_laws.proofs.Sameness.{IsSameness, sameness}
use Rattle.dns_compression_laws.proofs.Costs.{Test, Respects, IsClosed, with_name, with_one, cost_by, cost_is, respects-with_one, closed-with_name}

-- a suffix's first label, if it is new
abbrev pub new_octets : Bool → ℕ → ℕ
new_octets stood long = if stood then 0 else long

-- the first labels of a name's suffixes that are new
abbrev pub new_labels : Test → List (List ℕ) → ℕ
new_labels f [] = 0
new_labels f (label ∷ parent) = new_octets (f (label ∷ parent)) (1 + length label) + new_labels f parent

-- the first labels of suffixes, each at its first occurrence
abbrev pub fresh_labels : Sameness → Test → List (List (List ℕ)) → ℕ
fresh_labels same f [] = 0
fresh_labels same f (x ∷ xs) = new_octets (f x) (first_label x) + fresh_labels same (with_one same f x) xs

-- which suffixes are written after these
abbrev pub with_all : Sameness → Test → List (List (List ℕ)) → Test
with_all same f [] = f
with_all same f (x ∷ xs) = with_all same (with_one same f x) xs

-- the ends of names
abbrev pub ends_by : Sameness → Test → List (List (List ℕ)) → ℕ
ends_by same f [] = 0
ends_by same f (name ∷ names) = end_octets f name + ends_by same (with_name same f name) names

last_step : (a : Bool) (k : ℕ) → (if a then 2 else 1 + k + 1) ≡ new_octets a (1 + k) + 0 + (if a then 2 else 1)
last_step true k = omega arith
last_step false k = omega arith

more_step : (a b : Bool) (k y n e : ℕ) → (a ≡ true → b ≡ true) → (if b then 2 else y) ≡ n + e
    → (if a then 2 else 1 + k + (if b then 2 else y)) ≡ new_octets a (1 + k) + n + e
more_step true true k y n e up is = omega (arith, is)
more_step true false k y n e up is = absurd (false≢true (up refl))
more_step false true k y n e up is = omega (arith, is)
more_step false false k y n e up is = omega (arith, is)

or_turned : (a b c : Bool) → (a || (b || c)) ≡ (b || (a || c))
or_turned true true c = refl
or_turned true false c = refl
or_turned false b c = refl

or_joined : (a b c : Bool) → (a || (b || c)) ≡ ((b || a) || c)
or_joined true true c = refl
or_joined true false c = refl
or_joined false true c = refl
or_joined false false c = refl

name_sum : (f : Test) → IsClosed f → (name : List (List ℕ)) → name_cost f name ≡ new_labels f name + end_octets f name
name_sum f closed [] = refl
name_sum f closed (l ∷ []) = last_step (f (l ∷ [])) (length l)
name_sum f closed (l ∷ m ∷ p) =
    more_step (f (l ∷ m ∷ p)) (f (m ∷ p)) (length l) (1 + length m + name_cost f p) (new_labels f (m ∷ p)) (end_octets f (m ∷ p)) (closed l m p)
    (name_sum f closed (m ∷ p))

-- two suffixes are new in either order
swap_step : (b c : Bool) (a d : Bool) (j k : ℕ) → c ≡ b → (b ≡ true → a ≡ d) → (b ≡ true → j ≡ k)
    → new_octets a j + new_octets (b || d) k ≡ new_octets d k + new_octets (c || a) j
swap_step true true true true j k turned e long = refl
swap_step true true true false j k turned e long = absurd (false≢true (sym (e refl)))
swap_step true true false true j k turned e long = absurd (false≢true (e refl))
swap_step true true false false j k turned e long = omega (arith, long refl)
swap_step true false a d j k turned e long = absurd (false≢true turned)
swap_step false true a d j k turned e long = absurd (false≢true (sym turned))
swap_step false false a d j k turned e long = omega arith

module _ (same : Sameness) (h : IsSameness same) where
  same_length : (a b : List (List ℕ)) → same a b ≡ true → length a ≡ length b
  same_length [] [] e = refl
  same_length [] (m ∷ q) e = absurd (both_ways (same [] (m ∷ q)) (h.root m q) e)
  same_length (l ∷ p) [] e = absurd (both_ways (same [] (l ∷ p)) (h.root l p) (h.turns [] (l ∷ p) ∙ e))
  same_length (l ∷ p) (m ∷ q) e = omega (arith, same_length p q (h.parents l m p q e).1)

  same_first : (a b : List (List ℕ)) → same a b ≡ true → first_label a ≡ first_label b
  same_first [] [] e = refl
  same_first [] (m ∷ q) e = absurd (both_ways (same [] (m ∷ q)) (h.root m q) e)
  same_first (l ∷ p) [] e = absurd (both_ways (same [] (l ∷ p)) (h.root l p) (h.turns [] (l ∷ p) ∙ e))
  same_first (l ∷ p) (m ∷ q) e = omega (arith, (h.parents l m p q e).0)

  other_length : (test : Bool) → (test ≡ true → ⊥) → test ≡ false
  other_length true not = absurd (not refl)
  other_length false not = refl

  -- a name is no suffix of a shorter one
  no_suffix : (x name : List (List ℕ)) → length name < length x → is_suffix_of same x name ≡ false
  no_suffix x [] short = refl
  no_suffix x (m ∷ q) short =
      let here : same (m ∷ q) x ≡ false = other_length (same (m ∷ q) x) (λ e. omega (arith, same_length (m ∷ q) x e)) in
      rw here (no_suffix x q (omega arith))

  unused_labels : (f : Test) (x name : List (List ℕ)) → is_suffix_of same x name ≡ false → new_labels (with_one same f x) name ≡ new_labels f name
  unused_labels f x [] e = refl
  unused_labels f x (m ∷ q) e =
      let none = or_parts (same (m ∷ q) x) (is_suffix_of same x q) e in
      let turned : same x (m ∷ q) ≡ false = h.turns x (m ∷ q) ∙ none.0 in
      rw turned (ap (λ (k : ℕ). new_octets (f (m ∷ q)) (1 + length m) + k) (unused_labels f x q none.1))

  fresh_name : (f : Test) (name : List (List ℕ)) → fresh_labels same f (own_suffixes name) ≡ new_labels f name
  fresh_name f [] = refl
  fresh_name f (l ∷ p) =
      let on = fresh_name (with_one same f (l ∷ p)) p ∙ unused_labels f (l ∷ p) p (no_suffix (l ∷ p) p (omega arith)) in
      ap (λ (k : ℕ). new_octets (f (l ∷ p)) (1 + length l) + k) on

  all_name : (f : Test) (name x : List (List ℕ)) → with_all same f (own_suffixes name) x ≡ with_name same f name x
  all_name f [] x = refl
  all_name f (l ∷ p) x = all_name (with_one same f (l ∷ p)) p x ∙ or_joined (is_suffix_of same x p) (same (l ∷ p) x) (f x)

  fresh-append : (f : Test) (xs ys : List (List (List ℕ)))
      → fresh_labels same f (xs ++ ys) ≡ fresh_labels same f xs + fresh_labels same (with_all same f xs) ys
  fresh-append f [] ys = omega arith
  fresh-append f (x ∷ xs) ys = omega (arith, fresh-append (with_one same f x) xs ys)

  names_sum : (f : Test) → IsClosed f → (names : List (List (List ℕ)))
      → cost_by same f names ≡ fresh_labels same f (flat_map own_suffixes names) + ends_by same f names
  names_sum f closed [] = refl
  names_sum f closed (name ∷ names) =
      let all = ap (λ (g : Test). fresh_labels same g (flat_map own_suffixes names)) (fun_ext {f = with_all same f (own_suffixes name)} {g = with_name same f name} (all_name f name)) in
      omega (
        arith,
        name_sum f closed name,
        fresh_name f name,
        fresh-append f (own_suffixes name) (flat_map own_suffixes names),
        all,
        names_sum (with_name same f name) (closed-with_name same h f name closed) names,
      )

  all_same : (f : Test) (xs : List (List (List ℕ))) (x : List (List ℕ)) → with_all same f xs x ≡ (has_same same xs x || f x)
  all_same f [] x = refl
  all_same f (y ∷ xs) x = all_same (with_one same f y) xs x ∙ or_joined (has_same same xs x) (same y x) (f x)

  -- one suffix before others saves no more than its first label
  one_fresh : (f : Test) → Respects same f → (y : List (List ℕ)) (xs : List (List (List ℕ)))
      → fresh_labels same f xs ≤ new_octets (f y) (first_label y) + fresh_labels same (with_one same f y) xs
  one_fresh f r y [] = omega arith
  one_fresh f r y (x ∷ xs) =
      let on = one_fresh (with_one same f x) (respects-with_one same h f x r) y xs in
      let turned = ap (λ (g : Test). fresh_labels same g xs)
      (fun_ext {f = with_one same (with_one same f x) y} {g = with_one same (with_one same f y) x} (λ z. or_turned (same y z) (same x z) (f z))) in
      let step = swap_step (same x y) (same y x) (f x) (f y) (first_label x) (first_label y) (h.turns y x) (r x y) (same_first x y) in
      omega (arith, on, turned, step)

  -- and so do suffixes
  fresh_before : (f : Test) → Respects same f → (ys xs : List (List (List ℕ)))
      → fresh_labels same f xs ≤ fresh_labels same f ys + fresh_labels same (with_all same f ys) xs
  fresh_before f r [] xs = omega arith
  fresh_before f r (y ∷ ys) xs =
      omega (arith, one_fresh f r y xs, fresh_before (with_one same f y) (respects-with_one same h f y r) ys xs)

  none_fresh : (f : Test) (xs : List (List (List ℕ))) → ((x : List (List ℕ)) → has_same same xs x ≡ true → f x ≡ true) → fresh_labels same f xs ≡ 0
  none_fresh f [] each = refl
  none_fresh f (x ∷ xs) each =
      let here : f x ≡ true = each x (or_left (same x x) _ (h.self x)) in
      let zero : new_octets (f x) (first_label x) ≡ 0 = rw here refl in
      let rest = none_fresh (with_one same f x) xs (λ z is. or_right (same x z) _ (each z (or_right (same x z) _ is))) in
      omega (arith, zero, rest)

  -- suffixes that are among others are worth no more
  fresh_among : (xs ys : List (List (List ℕ))) → ((x : List (List ℕ)) → has_same same xs x ≡ true → has_same same ys x ≡ true)
      → fresh_labels same (λ x. false) xs ≤ fresh_labels same (λ x. false) ys
  fresh_among xs ys among =
      let before = fresh_before (λ x. false) (λ a b e. refl) ys xs in
      let none = none_fresh (with_all same (λ x. false) ys) xs (λ x is. all_same (λ z. false) ys x ∙ or_left (has_same same ys x) _ (among x is)) in
      omega (arith, before, none)

  still_new : (f : Test) (y : List (List ℕ)) (xs : List (List (List ℕ))) → has_same same xs y ≡ false → AllByRecursion (λ x. f x ≡ false) xs
      → AllByRecursion (λ x. with_one same f y x ≡ false) xs
  still_new f y [] apart new = tt
  still_new f y (x ∷ xs) apart new =
      let none = or_parts (same x y) (has_same same xs y) apart in
      let turned : same y x ≡ false = h.turns y x ∙ none.0 in
      (rw turned new.0, still_new f y xs none.1 new.1)

  distinct_sum : (f : Test) (xs : List (List (List ℕ))) → AreDistinctNames same xs → AllByRecursion (λ x. f x ≡ false) xs
      → fresh_labels same f xs ≡ sum_by first_label xs
  distinct_sum f [] apart new = refl
  distinct_sum f (x ∷ xs) apart new =
      let on = distinct_sum (with_one same f x) xs apart.1 (still_new f x xs apart.0 new.1) in
      let here : new_octets (f x) (first_label x) ≡ first_label x = rw new.0 refl in
      omega (arith, on, here, sum_by-cons first_label x xs)

  all_new : (xs : List (List (List ℕ))) → AllByRecursion (λ (x : List (List ℕ)). false ≡ false) xs
  all_new [] = tt
  all_new (x ∷ xs) = (refl, all_new xs)

  ends_are : (seen names : List (List (List ℕ))) → ends_cost same seen names ≡ ends_by same (has_stood same seen) names
  ends_are seen [] = refl
  ends_are seen (name ∷ names) = ap (λ (k : ℕ). end_octets (has_stood same seen) name + k) (ends_are (name ∷ seen) names)

  -- Suffixes have a list of the distinct ones.
  same_respects : (xs : List (List (List ℕ))) (a b : List (List ℕ)) → same a b ≡ true → has_same same xs a ≡ has_same same xs b
  same_respects [] a b e = refl
  same_respects (x ∷ xs) a b e =
      let here : same x a ≡ same x b = h.turns x a ∙ h.follows a b x e ∙ h.turns b x in
      λ i. here i || same_respects xs a b e i

  record IsDistinctOf (xs : List (List (List ℕ))) : Type 0 where
    some : List (List (List ℕ))
    distinct : AreDistinctNames same some
    each : (x : List (List ℕ)) → has_same same some x ≡ has_same same xs x

  distinct_step : (x : List (List ℕ)) (xs : List (List (List ℕ))) → IsDistinctOf xs → IsDistinctOf (x ∷ xs)
  distinct_step x xs of = by_test (has_same same of.some x) refl
    where
      or_there : (a b : Bool) → (a ≡ true → b ≡ true) → b ≡ (a || b)
      or_there true b e = e refl
      or_there false b e = refl

      by_test : (test : Bool) → has_same same of.some x ≡ test → IsDistinctOf (x ∷ xs)
      by_test true is = record {
        some = of.some;
        distinct = of.distinct;
        each = λ z.
            or_there (same x z) (has_same same of.some z) (λ e. sym (same_respects of.some x z e) ∙ is)
            ∙ ap (λ (b : Bool). same x z || b) (of.each z);
      }
      by_test false is = record {
        some = x ∷ of.some;
        distinct = (is, of.distinct);
        each = λ z. ap (λ (b : Bool). same x z || b) (of.each z);
      }

  distinct_of : (xs : List (List (List ℕ))) → IsDistinctOf xs
  distinct_of [] = record { some = []; distinct = tt; each = λ x. refl }
  distinct_of (x ∷ xs) = distinct_step x xs (distinct_of xs)

  pub suffixes_of : (names : List (List (List ℕ))) → (suffixes : List (List (List ℕ))) × AreTheSuffixes same names suffixes
  suffixes_of names =
      let of = distinct_of (flat_map own_suffixes names) in
      (of.some, record { distinct = of.distinct; each = of.each })

  -- The cost of names is the sum of the first labels of their distinct suffixes, and of their ends.
  pub cost_sum : (names suffixes : List (List (List ℕ))) → AreTheSuffixes same names suffixes
      → cost same [] names ≡ sum_by first_label suffixes + ends_cost same [] names
  cost_sum names suffixes are =
      let by_name = names_sum (λ x. false) (λ l m p e. e) names in
      let there = fresh_among (flat_map own_suffixes names) suffixes (λ x is. are.each x ∙ is) in
      let back = fresh_among suffixes (flat_map own_suffixes names) (λ x is. sym (are.each x) ∙ is) in
      let sum = distinct_sum (λ x. false) suffixes are.distinct (all_new suffixes) in
      omega (arith, cost_is same [] names, by_name, there, back, sum, ends_are [] names)

pub parts_sum : (s : Spelling) (parts : Parts) (suffixes : List (List (List ℕ))) → AreTheSuffixes (same_name s) (names_in parts) suffixes
    → parts_cost s parts ≡ suffixes_sum s suffixes parts
parts_sum s parts suffixes are = omega (arith, cost_sum (same_name s) (sameness s) (names_in parts) suffixes are)
