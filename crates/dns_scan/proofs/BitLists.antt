-- Numbers and their bits.
use Rattle.std.proofs.Common.{◌≡◌, ℕ, ◌+◌, ◌*◌, ◌/◌, ◌%◌, ◌^◌, ◌<◌, zero, suc, List, [], ◌∷◌, ◌++◌, length, fold, refl, sym, ◌∙◌, ap, arith, append_assoc, append-nil, length-append}
use Rattle.std.specs.List.{AllByRecursion}
use Rattle.std.proofs.Math.Nat.{pow-suc, div-div-eq-div-mul, mul_assoc, mul_comm}
use Rattle.std.proofs.lemmas.Nat.{shr_high, shr_split}
use Rattle.std.proofs.lemmas.Grind.{fold-append}
use Rattle.dns_scan.specs.Bits.{bits, number_of}

abbrev pub IsBit : ℕ → Type 0
IsBit bit = bit < 2

pub length-bits : (count number : ℕ) → length (bits count number) ≡ count
unfolding bits
length-bits zero number = refl
length-bits (suc count) number =
    omega (arith, length-append (bits count (number / 2)) ((number % 2) ∷ []), length-bits count (number / 2))

each_push : (front : List ℕ) (bit : ℕ) → AllByRecursion IsBit front → bit < 2 → AllByRecursion IsBit (front ++ bit ∷ [])
each_push [] bit each is = (is, tt)
each_push (first ∷ front) bit each is = (each.0, each_push front bit each.1 is)

pub bits_are : (count number : ℕ) → AllByRecursion IsBit (bits count number)
unfolding bits
bits_are zero number = tt
bits_are (suc count) number = each_push (bits count (number / 2)) (number % 2) (bits_are count (number / 2)) (omega arith)

half_pow : (number count : ℕ) → number / 2 / 2 ^ count ≡ number / 2 ^ suc count
half_pow number count = div-div-eq-div-mul number 2 (2 ^ count) ∙ ap (λ n. number / n) (omega (arith, pow-suc 2 count))

-- bits of a number are its high ones, and then its low ones
pub bits-add : (high low number : ℕ) → bits (high + low) number ≡ bits high (number / 2 ^ low) ++ bits low number
unfolding bits
bits-add high zero number =
    let one : high + 0 ≡ high = omega arith in
    let whole : number / 2 ^ 0 ≡ number = omega arith in
    rw (one, whole) (sym (append-nil (bits high number)))
bits-add high (suc low) number =
    let step : high + suc low ≡ suc (high + low) = omega arith in
    rw step
    (ap (λ l. l ++ (number % 2) ∷ []) (bits-add high low (number / 2) ∙ ap (λ n. bits high n ++ bits low (number / 2)) (half_pow number low))
    ∙ append_assoc (bits high (number / 2 ^ suc low)) (bits low (number / 2)) ((number % 2) ∷ []))

-- higher bits do not matter
pub bits_low : (count high low : ℕ) → bits count (high * 2 ^ count + low) ≡ bits count low
unfolding bits
bits_low zero high low = refl
bits_low (suc count) high low =
    let power = pow-suc 2 count in
    let product : high * 2 ^ suc count ≡ 2 * (high * 2 ^ count) =
    ap (λ n. high * n) (pow-suc 2 count) ∙ sym (mul_assoc high (2 ^ count) 2) ∙ mul_comm (high * 2 ^ count) 2 in
    let half : (high * 2 ^ suc count + low) / 2 ≡ high * 2 ^ count + low / 2 = omega (arith, product) in
    let last : (high * 2 ^ suc count + low) % 2 ≡ low % 2 = omega (arith, product) in
    rw (half, last) (ap (λ l. l ++ (low % 2) ∷ []) (bits_low count high (low / 2)))

-- the bits of two numbers, one after the other
pub bits_join : (count more number other : ℕ) → other < 2 ^ more
    → bits (count + more) (number * 2 ^ more + other) ≡ bits count number ++ bits more other
bits_join count more number other small =
    bits-add count more (number * 2 ^ more + other)
    ∙ ap (λ n. bits count n ++ bits more (number * 2 ^ more + other)) (shr_high number more other small)
    ∙ ap (λ l. bits count number ++ l) (bits_low more number other)

-- a number is cut in two
pub bits_cut : (count rest number : ℕ) → bits (count + rest) number ≡ bits count (number / 2 ^ rest) ++ bits rest (number % 2 ^ rest)
bits_cut count rest number =
    bits-add count rest number
    ∙ ap (λ l. bits count (number / 2 ^ rest) ++ l)
    (ap (bits rest) (sym (shr_split number rest)) ∙ bits_low rest (number / 2 ^ rest) (number % 2 ^ rest))

-- the number of its bits
pub number-bits : (count number : ℕ) → number < 2 ^ count → number_of (bits count number) ≡ number
unfolding bits
number-bits zero number small = omega arith
number-bits (suc count) number small =
    let last = fold-append (λ n b. 2 * n + b) 0 (bits count (number / 2)) ((number % 2) ∷ []) in
    let half = number-bits count (number / 2) (omega (arith, pow-suc 2 count)) in
    last ∙ omega (arith, half)

bits_onto : (group : List ℕ) (count number : ℕ) → AllByRecursion IsBit group
    → bits (count + length group) (fold (λ n b. 2 * n + b) number group) ≡ bits count number ++ group
unfolding bits
bits_onto [] count number each =
    let one : count + 0 ≡ count = omega arith in rw one (sym (append-nil (bits count number)))
bits_onto (bit ∷ group) count number each =
    let step : count + suc (length group) ≡ suc count + length group = omega arith in
    let half : (2 * number + bit) / 2 ≡ number = omega (arith, each.0) in
    let last : (2 * number + bit) % 2 ≡ bit = omega (arith, each.0) in
    rw step
    (bits_onto group (suc count) (2 * number + bit) each.1
    ∙ rw (half, last) (append_assoc (bits count number) (bit ∷ []) group))

-- the bits of a group's number
pub bits-number : (group : List ℕ) → AllByRecursion IsBit group → bits (length group) (number_of group) ≡ group
unfolding bits
bits-number group each = let none : 0 + length group ≡ length group = omega arith in rw none at (bits_onto group 0 0 each)
