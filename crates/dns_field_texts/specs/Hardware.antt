-- Hardware addresses: two hexadecimal digits for each octet, with `-` between them (RFC 7043, sections 3.2 and 4.2).
use Rattle.std.specs.Prelude.{◌≡◌, ◌+◌, ◌*◌, ◌/◌, ◌%◌, ◌<◌, ℕ, List, [], ◌∷◌, length, map, nat_lt, if◌then◌else◌}
use Rattle.std.specs.Char.{digit_value}
use Rattle.std.specs.List.{join_with_byte}

-- two hexadecimal digits, in upper or lower case, are of the octet
pub record IsHexPair (pair : List ℕ) (octet : ℕ) : Type 0 where
  pub high : ℕ
  pub low : ℕ
  pub written : pair ≡ high ∷ low ∷ []
  pub high_digit : digit_value high < 16
  pub low_digit : digit_value low < 16
  pub is : octet ≡ 16 * digit_value high + digit_value low

-- the pairs are of the octets, one for each
abbrev pub AreHexPairs : List (List ℕ) → List ℕ → Type 0
AreHexPairs [] octets = octets ≡ []
AreHexPairs (pair ∷ pairs) octets =
    (octet : ℕ) × (behind : List ℕ) × IsHexPair pair octet × AreHexPairs pairs behind × (octets ≡ octet ∷ behind)

-- the text is that of an address of `count` octets
pub record IsHardwareText (count : ℕ) (text octets : List ℕ) : Type 0 where
  pub pairs : List (List ℕ)
  pub written : text ≡ join_with_byte 45 pairs
  pub are : AreHexPairs pairs octets
  pub long : length octets ≡ count

-- a digit in lower case
abbrev pub small_digit : ℕ → ℕ
small_digit number = if nat_lt number 10 then 48 + number else 87 + number

-- an octet in two digits
abbrev pub small_pair : ℕ → List ℕ
small_pair octet = small_digit (octet / 16) ∷ small_digit (octet % 16) ∷ []

-- how an address is written
abbrev pub hardware_written : List ℕ → List ℕ
hardware_written octets = join_with_byte 45 (map small_pair octets)
