-- Numbers as bits, and bits cut into groups (RFC 4648 3.1).
use Rattle.std.specs.Prelude.{◌+◌, ◌*◌, ◌/◌, ◌%◌, ◌==◌, ◌-◌, ℕ, zero, suc, List, [], ◌∷◌, ◌++◌, length, map, fold, replicate, if◌then◌else◌}
use Rattle.std.specs.List.{flat_map}

-- that number of the lowest bits of a number, the highest of them first
unfoldable pub bits : ℕ → ℕ → List ℕ
bits zero number = []
bits (suc count) number = bits count (number / 2) ++ (number % 2) ∷ []

-- the bits of numbers, one after another
abbrev pub all_bits : ℕ → List ℕ → List ℕ
all_bits count numbers = flat_map (bits count) numbers

-- bits as a number, the first the highest
abbrev pub number_of : List ℕ → ℕ
number_of group = fold (λ number bit. 2 * number + bit) 0 group

-- Bits cut into groups of that length, after the bits that are held already. The last group may have fewer.
abbrev pub grouped : ℕ → List ℕ → List ℕ → List (List ℕ)
grouped count held [] = if length held == 0 then [] else held ∷ []
grouped count held (bit ∷ others) =
    if length held + 1 == count then (held ++ bit ∷ []) ∷ grouped count [] others
    else grouped count (held ++ bit ∷ []) others

-- the number of a group, filled up with zeros
abbrev pub padded_number : ℕ → List ℕ → ℕ
padded_number count group = number_of (group ++ replicate (count - length group) 0)

-- the numbers of bits that are cut into groups of that length
abbrev pub numbers_of : ℕ → List ℕ → List ℕ
numbers_of count bits = map (padded_number count) (grouped count [] bits)
