-- What shifts and masks do to the number of bits.
use Rattle.std.proofs.Common.{◌≡◌, ℕ, ◌+◌, ◌-◌, ◌*◌, ◌/◌, ◌%◌, ◌^◌, ◌<◌, ◌≤◌, ◌++◌, sym, ◌∙◌, ap, subst, arith, bit_and, bit_or}
use Rattle.std.proofs.lemmas.Nat.{shl_whole, or_shifted, one_shl, and_mask, pow-add, mul-add-lt, shr_below}
use Rattle.dns_scan.specs.Bits.{bits}
use Rattle.dns_scan.proofs.BitLists.{bits_join, bits_cut}

pub shifted_or : (number count more other : ℕ) → number < 2 ^ count → other < 2 ^ more → count + more ≤ 16
    → bit_or (number * 2 ^ more % 2 ^ 32) other ≡ number * 2 ^ more + other
shifted_or number count more other small fits few =
    ap (λ n. bit_or n other) (shl_whole number count more 32 small (omega arith)) ∙ or_shifted number more other fits

pub joined_small : (number count more other : ℕ) → number < 2 ^ count → other < 2 ^ more → number * 2 ^ more + other < 2 ^ (count + more)
joined_small number count more other small fits =
    let power : 2 ^ more * 2 ^ count ≡ 2 ^ (count + more) = sym (pow-add 2 more count) ∙ ap (λ n. 2 ^ n) (omega arith) in
    let P : ℕ → Type 0 = λ n. number * 2 ^ more + other < n in
    subst P power (mul-add-lt number (2 ^ more) other (2 ^ count) small fits)

pub masked : (number rest : ℕ) → rest ≤ 16 → bit_and number (1 * 2 ^ rest % 2 ^ 32 - 1) ≡ number % 2 ^ rest
masked number rest few = ap (λ n. bit_and number (n - 1)) (one_shl rest 32 (omega arith)) ∙ and_mask number rest

pub pushed : (number count more other : ℕ) → number < 2 ^ count → other < 2 ^ more → count + more ≤ 16
    → bits (count + more) (bit_or (number * 2 ^ more % 2 ^ 32) other) ≡ bits count number ++ bits more other
pushed number count more other small fits few =
    ap (bits (count + more)) (shifted_or number count more other small fits few) ∙ bits_join count more number other fits

pub taken : (number count front : ℕ) → front ≤ count → count ≤ 16
    → bits count number ≡ bits front (number / 2 ^ (count - front)) ++ bits (count - front) (bit_and number (1 * 2 ^ (count - front) % 2 ^ 32 - 1))
taken number count front within few =
    ap (λ n. bits n number) (omega arith) ∙ bits_cut front (count - front) number
    ∙ ap (λ n. bits front (number / 2 ^ (count - front)) ++ bits (count - front) n) (sym (masked number (count - front) (omega arith)))

pub taken_small : (number count front : ℕ) → front ≤ count → number < 2 ^ count → number / 2 ^ (count - front) < 2 ^ front
taken_small number count front within small =
    let P : ℕ → Type 0 = λ n. number < 2 ^ n in
    shr_below number front (count - front) (subst P (omega arith) small)
