-- A parser is a place in a list of octets.
use Rattle.std.specs.Prelude.{◌≡◌, ◌+◌, ℕ, List, drop}
use Rattle.dns_octets.specs.declared.parser.Parser.{Parser}

-- all octets, also those before the place
abbrev pub octets_of : Parser → List ℕ
octets_of parser = parser.octets.now

-- the number of octets before the place
abbrev pub place_of : Parser → ℕ
place_of parser = parser.place

-- the octets that are left
abbrev pub rest_of : Parser → List ℕ
rest_of parser = drop (place_of parser) (octets_of parser)

-- the new parser is in the same octets, count octets further on
pub record GoesOn (old new : Parser) (count : ℕ) : Type 0 where
  pub octets : new.octets ≡ old.octets
  pub place : place_of new ≡ place_of old + count
