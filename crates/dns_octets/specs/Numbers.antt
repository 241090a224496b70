-- Numbers in octets, the most significant octet first (RFC 1035 2.3.2).
use Rattle.std.specs.Prelude.{ℕ, List, take, drop}
use Rattle.std.specs.Int.{from_be_bytes, w16}

-- the number in two octets at a place
abbrev pub number_at : List ℕ → ℕ → ℕ
number_at octets place = from_be_bytes w16 (take 2 (drop place octets))
