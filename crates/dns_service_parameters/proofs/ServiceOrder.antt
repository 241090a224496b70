-- Lists of numbers in order, with the same elements.
use Rattle.std.proofs.Common.{◌≡◌, ◌≢◌, ◌<◌, ◌≤◌, ◌==◌, cond, ℕ, zero, suc, true, false, List, [], ◌∷◌, length, get_or, map, refl, sym, ap, subst, arith, ◌⊎◌, inl, inr}
use Rattle.std.proofs.lemmas.Bool.Decides.{nat_tests}
use Rattle.std.proofs.lemmas.List.Sorted.{All-permutation, Contains-permutation, IsPermutation-map, IsPermutation-sym, IsPermutation-trans, sum_by-IsPermutation}
use Rattle.std.proofs.lemmas.List.Sums.{sum_by-cons}
use Rattle.std.proofs.lemmas.Bool.{cases_lt}
use Rattle.std.specs.Prelude.{⊤, sum_by}
use Rattle.std.specs.List.{All, AllByRecursion, Contains}
use Rattle.std.specs.List.Sorted.{IsNonDecreasingBy, IsPermutation}
use Rattle.dns_service_parameters.specs.Service.{Ascend, Parameter, keys_of}

-- no number is above those after it
abbrev pub Rises : List ℕ → Type 0
Rises [] = ⊤
Rises (n ∷ others) = AllByRecursion (λ other. n ≤ other) others × Rises others

pub rises_ascend : (ns : List ℕ) → Ascend ns → Rises ns
rises_ascend [] ascend = tt
rises_ascend (n ∷ ns) ascend = (low ns ascend.0, rises_ascend ns ascend.1)
  where
    low : (ms : List ℕ) → AllByRecursion (λ m. n < m) ms → AllByRecursion (λ m. n ≤ m) ms
    low [] all = tt
    low (m ∷ ms) all = let first = all.0 in (omega arith, low ms all.1)

-- from a sort by a key
all_keys : {X : Type 0} (key : X → ℕ) (n : ℕ) (xs : List X) → ((k : ℕ) (d : X) → k < length xs → n ≤ key (get_or xs k d)) → AllByRecursion (λ m. n ≤ m) (map key xs)
all_keys key n [] all = tt
all_keys key n (x ∷ xs) all = (all 0 x (omega arith), all_keys key n xs (λ k d within. all (suc k) d (omega arith)))

pub rises_sorted : {X : Type 0} (key : X → ℕ) (xs : List X) → IsNonDecreasingBy key xs → Rises (map key xs)
rises_sorted key [] up = tt
rises_sorted key (x ∷ xs) up = (
  all_keys key (key x) xs (λ k d within. up 0 (suc k) d (omega arith) (omega arith)),
  rises_sorted key xs (λ i j d less within. up (suc i) (suc j) d (omega arith) (omega arith)),
)

-- how many numbers of a list are this one
hit : ℕ → ℕ → ℕ
hit n m = cond (m == n) 1 0

hit_same : (n m : ℕ) → m ≡ n → hit n m ≡ 1
unfolding hit
hit_same n m is = let test : (m == n) ≡ true = grind (arith, nat_tests) in rw test refl

hit_other : (n m : ℕ) → m ≢ n → hit n m ≡ 0
unfolding hit
hit_other n m not = let test : (m == n) ≡ false = grind (arith, nat_tests) in rw test refl

none_above : (n : ℕ) (ms : List ℕ) → AllByRecursion (λ m. n < m) ms → sum_by (hit n) ms ≡ 0
none_above n [] above = refl
none_above n (m ∷ ms) above =
    let first = above.0 in
    let other = hit_other n m (λ same. omega (arith, first, same)) in
    let behind = none_above n ms above.1 in
    omega (arith, sum_by-cons (hit n) m ms, other, behind)

lower : (n m : ℕ) (ms : List ℕ) → n < m → AllByRecursion (λ k. m ≤ k) ms → AllByRecursion (λ k. n < k) ms
lower n m [] less all = tt
lower n m (k ∷ ms) less all = let first = all.0 in (omega arith, lower n m ms less all.1)

abbrev Same : List ℕ → List ℕ → Type 0
Same ns ms = (n : ℕ) → sum_by (hit n) ns ≡ sum_by (hit n) ms

not_less : (n m : ℕ) (ns ms : List ℕ) → Rises (m ∷ ms) → Same (n ∷ ns) (m ∷ ms) → n < m → ⊥
not_less n m ns ms up same less =
    let none = none_above n (m ∷ ms) (less, lower n m ms less up.0) in
    let one = hit_same n n refl in
    omega (arith, sum_by-cons (hit n) n ns, one, none, same n)

same_behind : (n m : ℕ) (ns ms : List ℕ) → n ≡ m → Same (n ∷ ns) (m ∷ ms) → Same ns ms
same_behind n m ns ms is same = λ k.
    omega (arith, same k, sum_by-cons (hit k) n ns, sum_by-cons (hit k) m ms, ap (hit k) is)

same_rises : (ns ms : List ℕ) → Rises ns → Rises ms → Same ns ms → ns ≡ ms
same_rises [] [] up also same = refl
same_rises [] (m ∷ ms) up also same = absurd (omega (arith, same m, sum_by-cons (hit m) m ms, hit_same m m refl))
same_rises (n ∷ ns) [] up also same = absurd (omega (arith, same n, sum_by-cons (hit n) n ns, hit_same n n refl))
same_rises (n ∷ ns) (m ∷ ms) up also same =
    let low = not_less n m ns ms also same in
    let high = not_less m n ms ns up (λ k. sym (same k)) in
    let is : n ≡ m = between n m low high in
    let behind = same_rises ns ms up.1 also.1 (same_behind n m ns ms is same) in
    λ i. is i ∷ behind i
  where
    between : (n m : ℕ) → (n < m → ⊥) → (m < n → ⊥) → n ≡ m
    between n m low high = elim (cases_lt n m) [
      | inl less ↦ absurd (low less)
      | inr less ↦ elim (cases_lt m n) [ inl more ↦ absurd (high more) | inr more ↦ omega arith ]
    ]

pub one_order : (xs ys : List ℕ) → IsPermutation xs ys → Rises xs → Rises ys → xs ≡ ys
one_order xs ys moved up also = same_rises xs ys up also (λ n. sym (sum_by-IsPermutation (hit n) xs ys moved))

-- two orders of one list
pub same_order : (listed xs ys : List ℕ) → IsPermutation listed xs → IsPermutation listed ys → Rises xs → Rises ys → xs ≡ ys
same_order listed xs ys moved also = one_order xs ys (IsPermutation-trans xs listed ys (IsPermutation-sym listed xs moved) also)

-- what holds of each element holds of each in another order
each_all : {X : Type 0} (P : X → Type 0) (xs : List X) → AllByRecursion P xs → All P xs
each_all P [] each k d within = absurd (omega arith)
each_all P (x ∷ xs) each zero d within = each.0
each_all P (x ∷ xs) each (suc k) d within = each_all P xs each.1 k d (omega arith)

all_each : {X : Type 0} (P : X → Type 0) (xs : List X) → All P xs → AllByRecursion P xs
all_each P [] all = tt
all_each P (x ∷ xs) all = (all 0 x (omega arith), all_each P xs (λ k d within. all (suc k) d (omega arith)))

pub each_permutation : {X : Type 0} (P : X → Type 0) (xs ys : List X) → IsPermutation xs ys → AllByRecursion P xs → AllByRecursion P ys
each_permutation P xs ys moved each = all_each P ys (All-permutation P xs ys moved (each_all P xs each))

-- parameters in order
abbrev In : Parameter → List Parameter → Type 0
In one [] = ⊥
In one (parameter ∷ parameters) = (one ≡ parameter) ⊎ In one parameters

in_from : (one : Parameter) (parameters : List Parameter) → Contains parameters one → In one parameters
in_from one parameters has = by parameters has.0 has.1 has.2
  where
    by : (all : List Parameter) (k : ℕ) → k < length all → get_or all k one ≡ one → In one all
    by [] k within is = omega arith
    by (parameter ∷ all) zero within is = inl (sym is)
    by (parameter ∷ all) (suc k) within is = inr (by all k (omega arith) is)

in_to : (one : Parameter) (parameters : List Parameter) → In one parameters → Contains parameters one
in_to one [] is = absurd is
in_to one (parameter ∷ parameters) (inl is) = (0, omega arith, sym is)
in_to one (parameter ∷ parameters) (inr is) = let behind = in_to one parameters is in (suc behind.0, omega (arith, behind.1), behind.2)

in_above : (n : ℕ) (one : Parameter) (parameters : List Parameter) → AllByRecursion (λ k. n < k) (keys_of parameters) → In one parameters → n < one.key
in_above n one [] above is = absurd is
in_above n one (parameter ∷ parameters) above (inl is) = let key = ap (λ (p : Parameter). p.key) is in let first = above.0 in omega (arith, key, first)
in_above n one (parameter ∷ parameters) above (inr is) = in_above n one parameters above.1 is

by_keys : (xs ys : List Parameter) → Ascend (keys_of xs) → keys_of xs ≡ keys_of ys → ((one : Parameter) → In one ys → In one xs) → xs ≡ ys
by_keys [] [] up same within = refl
by_keys [] (y ∷ ys) up same within = absurd (cc)
by_keys (x ∷ xs) [] up same within = absurd (cc)
by_keys (x ∷ xs) (y ∷ ys) up same within =
    let key : x.key ≡ y.key = cc in
    let behind : keys_of xs ≡ keys_of ys = cc in
    let first : x ≡ y = here key (within y (inl refl)) in
    let rest = by_keys xs ys up.1 behind (λ one is. there one key behind is (within one (inr is))) in
    λ i. first i ∷ rest i
  where
    here : x.key ≡ y.key → In y (x ∷ xs) → x ≡ y
    here key (inl is) = sym is
    here key (inr is) = let above = in_above x.key y xs up.0 is in absurd (omega (arith, above, key))

    there : (one : Parameter) → x.key ≡ y.key → keys_of xs ≡ keys_of ys → In one ys → In one (x ∷ xs) → In one xs
    there one key behind is (inr found) = found
    there one key behind is (inl found) =
        let same = ap (λ (p : Parameter). p.key) found in
        let above = in_above x.key one ys (subst (AllByRecursion (λ k. x.key < k)) behind up.0) is in
        absurd (omega (arith, same, above))

pub parameters_one : (xs ys : List Parameter) → IsPermutation xs ys → Ascend (keys_of xs) → Rises (keys_of ys) → xs ≡ ys
parameters_one xs ys moved up also =
    by_keys xs ys up (one_order (keys_of xs) (keys_of ys) (IsPermutation-map (λ (p : Parameter). p.key) xs ys moved) (rises_ascend (keys_of xs) up) also)
    (λ one is. in_from one xs (Contains-permutation ys xs one (IsPermutation-sym xs ys moved) (in_to one ys is)))
