-- Serial numbers, which wrap around at 2^32 (RFC 1982).
use Rattle.std.specs.Prelude.{ℕ, Bool, ◌+◌, ◌-◌, ◌%◌, ◌^◌, ◌==◌, ◌&&◌, ◌||◌, nat_lt, Option, Some, None, option_map, if◌then◌else◌}
use Rattle.std.specs.Ordering.{ordering_reverse}
use Rattle.std.specs.declared.cmp.Ordering.{Ordering}
use Rattle.std.specs.declared.cmp.Ordering.TheVariants.{Less, Equal, Greater}

-- the serial number that is n later (section 3.1)
abbrev pub serial_add : ℕ → ℕ → ℕ
serial_add serial n = (serial + n) % 2 ^ 32

-- a is less than b: it is the smaller number and less than 2^31 away, or the greater and more than 2^31 away (section
-- 3.2)
abbrev pub serial_lt : ℕ → ℕ → Bool
serial_lt a b = (nat_lt a b && nat_lt (b - a) (2 ^ 31)) || (nat_lt b a && nat_lt (2 ^ 31) (a - b))

-- how a compares to b; None if they differ and neither is less (section 3.2)
unfoldable pub serial_cmp : ℕ → ℕ → Option Ordering
serial_cmp a b =
    if a == b then Some Equal else if serial_lt a b then Some Less else if serial_lt b a then Some Greater else None

-- the result for the sides swapped
abbrev pub swapped : Option Ordering → Option Ordering
swapped answer = option_map ordering_reverse answer
