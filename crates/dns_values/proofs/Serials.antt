-- How serial numbers are compared.
use Rattle.std.proofs.Common.{◌≡◌, ◌+◌, ◌-◌, ◌%◌, ◌^◌, ◌<◌, ℕ, true, false, ◌==◌, Some, None, refl, arith, ◌↔◌}
use Rattle.std.specs.Ordering.{nat_cmp}
use Rattle.std.specs.declared.cmp.Ordering.TheVariants.{Less, Equal, Greater}
use Rattle.std.proofs.lemmas.Bool.Decides.{nat_tests}
use Rattle.dns_values.specs.Serial.{serial_add, serial_cmp, serial_lt, swapped}

pub serial_cmp-same : (a b : ℕ) → a ≡ b → serial_cmp a b ≡ Some Equal
unfolding serial_cmp
serial_cmp-same a b same = grind (arith, nat_tests)

pub serial_cmp-behind_near : (a b : ℕ) → a < b → nat_cmp (b - a) 2147483648 ≡ Less → serial_cmp a b ≡ Some Less
unfolding serial_cmp
serial_cmp-behind_near a b order distance = grind (arith, nat_tests)

pub serial_cmp-behind_half : (a b : ℕ) → a < b → nat_cmp (b - a) 2147483648 ≡ Equal → serial_cmp a b ≡ None
unfolding serial_cmp
serial_cmp-behind_half a b order distance = grind (arith, nat_tests)

pub serial_cmp-behind_far : (a b : ℕ) → a < b → nat_cmp (b - a) 2147483648 ≡ Greater → serial_cmp a b ≡ Some Greater
unfolding serial_cmp
serial_cmp-behind_far a b order distance = grind (arith, nat_tests)

pub serial_cmp-ahead_near : (a b : ℕ) → b < a → nat_cmp (a - b) 2147483648 ≡ Less → serial_cmp a b ≡ Some Greater
unfolding serial_cmp
serial_cmp-ahead_near a b order distance = grind (arith, nat_tests)

pub serial_cmp-ahead_half : (a b : ℕ) → b < a → nat_cmp (a - b) 2147483648 ≡ Equal → serial_cmp a b ≡ None
unfolding serial_cmp
serial_cmp-ahead_half a b order distance = grind (arith, nat_tests)

pub serial_cmp-ahead_far : (a b : ℕ) → b < a → nat_cmp (a - b) 2147483648 ≡ Greater → serial_cmp a b ≡ Some Less
unfolding serial_cmp
serial_cmp-ahead_far a b order distance = grind (arith, nat_tests)

pub ruleset serial_cmp_rules = (serial_cmp-same, serial_cmp-behind_near, serial_cmp-behind_half, serial_cmp-behind_far, serial_cmp-ahead_near, serial_cmp-ahead_half, serial_cmp-ahead_far)

-- RFC 1982, section 3.2, the other way round
pub serial_lt-serial_add : (serial n : ℕ) → serial < 2 ^ 32 → 0 < n → n < 2 ^ 31 → serial_lt serial (serial_add serial n) ≡ true
serial_lt-serial_add serial n small some near = grind (arith, nat_tests)

pub serial_cmp-serial_add : (serial n : ℕ) → serial < 2 ^ 32 → 0 < n → n < 2 ^ 31 → serial_cmp serial (serial_add serial n) ≡ Some Less
unfolding serial_cmp
serial_cmp-serial_add serial n small some near =
    let apart : (serial == serial_add serial n) ≡ false = grind (arith, nat_tests) in
    rw (apart, serial_lt-serial_add serial n small some near) refl

pub serial_cmp_swapped : (a b : ℕ) → a < 2 ^ 32 → b < 2 ^ 32 → serial_cmp b a ≡ swapped (serial_cmp a b)
unfolding serial_cmp
serial_cmp_swapped a b small_a small_b = grind (arith, nat_tests)

half_from_none : (a b : ℕ) → a < 2 ^ 32 → b < 2 ^ 32 → serial_cmp a b ≡ None → (a + 2 ^ 31) % 2 ^ 32 ≡ b
unfolding serial_cmp
half_from_none a b small_a small_b none = grind (arith, nat_tests)

none_from_half : (a b : ℕ) → a < 2 ^ 32 → b < 2 ^ 32 → (a + 2 ^ 31) % 2 ^ 32 ≡ b → serial_cmp a b ≡ None
unfolding serial_cmp
none_from_half a b small_a small_b half = grind (arith, nat_tests)

pub serial_cmp-none : (a b : ℕ) → a < 2 ^ 32 → b < 2 ^ 32 → (serial_cmp a b ≡ None) ↔ ((a + 2 ^ 31) % 2 ^ 32 ≡ b)
serial_cmp-none a b small_a small_b = (half_from_none a b small_a small_b, none_from_half a b small_a small_b)

pub ruleset serial_laws = (serial_cmp-serial_add, serial_cmp_swapped, serial_cmp-none)
