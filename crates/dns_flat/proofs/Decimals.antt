-- Numbers of one octet by their decimal digits.
use Rattle.std.proofs.Common.{◌≡◌, ℕ, ◌+◌, ◌/◌, ◌%◌, ◌<◌, ◌≤◌, Bool, true, false, List, [], ◌∷◌, ◌++◌, refl, sym, ◌∙◌, ap, arith}
use Rattle.std.specs.Prelude.{nat_lt, if◌then◌else◌}
use Rattle.std.proofs.lemmas.Bool.Decides.{nat_tests}
use Rattle.std.specs.Fmt.{decimal}
use Rattle.std.proofs.lemmas.Fmt.{decimal_digit, decimal_step}

pub one_digit : (n : ℕ) → n < 10 → (48 + n % 10) ∷ [] ≡ decimal n
one_digit n small =
    let same : 48 + n % 10 ≡ 48 + n = omega (arith, small) in ap (λ (c : ℕ). c ∷ []) same ∙ sym (decimal_digit n small)

pub two_digits : (n : ℕ) → 10 ≤ n → n < 100 → (48 + n / 10 % 10) ∷ (48 + n % 10) ∷ [] ≡ decimal n
two_digits n some small =
    ap (λ (l : List ℕ). l ++ (48 + n % 10) ∷ []) (one_digit (n / 10) (omega (arith, small))) ∙ sym (decimal_step n some (omega (arith, small)))

pub three_digits : (n : ℕ) → 100 ≤ n → n < 256 → (48 + n / 100) ∷ (48 + n / 10 % 10) ∷ (48 + n % 10) ∷ [] ≡ decimal n
three_digits n some small =
    let high : 48 + n / 100 ≡ 48 + n / 10 / 10 % 10 = omega (arith, small) in
    ap (λ (c : ℕ). c ∷ (48 + n / 10 % 10) ∷ (48 + n % 10) ∷ []) high
    ∙ ap (λ (l : List ℕ). l ++ (48 + n % 10) ∷ []) (two_digits (n / 10) (omega (arith, some)) (omega (arith, small)))
    ∙ sym (decimal_step n (omega (arith, some)) (omega (arith, small)))

-- the digits by how many there are
abbrev pub by_size : ℕ → List ℕ
by_size n =
    if nat_lt n 10 then (48 + n % 10) ∷ []
    else (if nat_lt n 100 then (48 + n / 10 % 10) ∷ (48 + n % 10) ∷ []
    else (48 + n / 100) ∷ (48 + n / 10 % 10) ∷ (48 + n % 10) ∷ [])

by_tests : (n : ℕ) (one two : Bool) → nat_lt n 10 ≡ one → nat_lt n 100 ≡ two → n < 256 → by_size n ≡ decimal n
by_tests n true two is are small = let few : n < 10 = grind (arith, nat_tests) in rw is (one_digit n few)
by_tests n false true is are small =
    let some : 10 ≤ n = grind (arith, nat_tests) in
    let few : n < 100 = grind (arith, nat_tests) in
    rw (is, are) (two_digits n some few)
by_tests n false false is are small = let some : 100 ≤ n = grind (arith, nat_tests) in rw (is, are) (three_digits n some small)

pub by_size_is : (n : ℕ) → n < 256 → by_size n ≡ decimal n
by_size_is n small = by_tests n (nat_lt n 10) (nat_lt n 100) refl refl small
