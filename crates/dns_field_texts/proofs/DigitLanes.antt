-- Vectors of decimal digits, lane by lane.
use Rattle.std.proofs.Common.{◌≡◌, ◌+◌, ◌-◌, ◌*◌, ◌%◌, ◌^◌, ◌<◌, ◌&&◌, ℕ, Bool, true, false, cond, List, [], ◌∷◌, nat_lt, nat_eq, map, length, take, get_or, w8, Fits, refl, ◌∙◌, ap, subst, arith}
use Rattle.std.specs.Char.{is_ascii_digit}
use Rattle.std.specs.List.{list_all}
use Rattle.std.specs.Simd.Lanes.{Each1, mask_l}
use Rattle.std.proofs.lemmas.Bool.Decides.{nat_tests}
use Rattle.std.proofs.lemmas.List.{length-map, take_all}
use Rattle.std.proofs.lemmas.Simd.{mask_l-mod, chunk-fits}
use lib.Lanes.{zip2, top}
use lib.ListN.{replicate}

-- one lane
abbrev back : ℕ → ℕ → ℕ
back a b = (a + (256 - b)) % 256

abbrev mark : ℕ → ℕ → ℕ
mark a b = cond (nat_lt a b) 255 0

marked : (b : Bool) → top 7 (cond b 255 0) ≡ b
marked true = refl
marked false = refl

less_is : (c : ℕ) → c < 256 → nat_lt (back c 48) 10 ≡ is_ascii_digit c
less_is c small = grind (arith, nat_tests)

-- the whole vectors, as the code makes them
abbrev digit_marks : ℕ → List ℕ → List Bool
digit_marks n octets = map (top 7) (zip2 mark (zip2 back octets (replicate n 48)) (replicate n 10))

marks_are : (octets : List ℕ) → Each1 (Fits w8) octets → digit_marks (length octets) octets ≡ map is_ascii_digit octets
marks_are [] fits = refl
marks_are (octet ∷ octets) fits =
    let one = marked (nat_lt (back octet 48) 10) ∙ less_is octet fits.0.fits in
    let behind = marks_are octets fits.1 in λ i. one i ∷ behind i

-- a mask of ones alone
abbrev full : ℕ → ℕ
full n = mask_l (replicate n true)

more_ones : (mark : Bool) (m n : ℕ) → nat_eq (cond mark 1 0 + 2 * m) (1 + 2 * n) ≡ (mark && nat_eq m n)
more_ones true m n = grind (arith, nat_tests)
more_ones false m n = grind (arith, nat_tests)

full_is : (test : ℕ → Bool) (octets : List ℕ) → nat_eq (mask_l (map test octets)) (full (length octets)) ≡ list_all test octets
full_is test [] = refl
full_is test (octet ∷ octets) = more_ones (test octet) (mask_l (map test octets)) (full (length octets)) ∙ ap (λ b. test octet && b) (full_is test octets)

-- the same of eight lanes
eight_lanes : (octets : List ℕ) → length octets ≡ 8 → Each1 (Fits w8) octets
    → nat_eq (mask_l (digit_marks 8 octets) % 2 ^ 64) 255 ≡ list_all is_ascii_digit octets
eight_lanes octets long fits =
    let marks : digit_marks 8 octets ≡ map is_ascii_digit octets =
    subst (λ (n : ℕ). digit_marks n octets ≡ map is_ascii_digit octets) long (marks_are octets fits) in
    let whole = mask_l-mod (map is_ascii_digit octets) 64 (omega (arith, long, length-map octets is_ascii_digit)) in
    ap (λ (l : List Bool). nat_eq (mask_l l % 2 ^ 64) 255) marks ∙ ap (λ n. nat_eq n 255) whole
    ∙ subst (λ (n : ℕ). nat_eq (mask_l (map is_ascii_digit octets)) (full n) ≡ list_all is_ascii_digit octets) long (full_is is_ascii_digit octets)

pub eight_digits : (octets : List ℕ) → length octets ≡ 8 → ((i : ℕ) → Fits w8 (get_or octets i 0))
    → nat_eq (mask_l (digit_marks 8 (take 8 octets)) % 2 ^ 64) 255 ≡ list_all is_ascii_digit octets
eight_digits octets long fits =
    let whole : take 8 octets ≡ octets = take_all 8 octets (omega (arith, long)) in
    eight_lanes (take 8 octets) (ap (λ (l : List ℕ). length l) whole ∙ long) (chunk-fits w8 0 8 octets fits) ∙ ap (list_all is_ascii_digit) whole
