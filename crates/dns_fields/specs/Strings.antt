-- One or more strings up to the end, as octets (RFC 1035 3.3.14).
use Rattle.std.specs.Prelude.{◌≡◌, ℕ, zero, suc, List, [], ◌∷◌, length, take, drop}
use Rattle.std.specs.List.{AllByRecursion, flat_map}
use Rattle.dns_scan.specs.CharStr.{string_wire}
use Rattle.dns_fields.specs.Fields.{IsField, IsString, strings, field_octets}

-- the octets are one or more strings
pub record AreStringOctets (octets : List ℕ) : Type 0 where
  pub each : List (List ℕ)
  pub is_field : IsField (strings each)
  pub written : octets ≡ field_octets (strings each)

-- the first strings that octets are cut into, at most that number
abbrev pub first_strings : ℕ → List ℕ → List (List ℕ)
first_strings zero octets = []
first_strings (suc count) [] = []
first_strings (suc count) (number ∷ octets) = take number octets ∷ first_strings count (drop number octets)

-- the strings that octets are cut into: each has as many octets as the one before it says
abbrev pub strings_of : List ℕ → List (List ℕ)
strings_of octets = first_strings (length octets) octets

-- the strings that octets are cut into make them up
pub record AreCut (octets : List ℕ) : Type 0 where
  pub short : AllByRecursion IsString (strings_of octets)
  pub written : flat_map string_wire (strings_of octets) ≡ octets
