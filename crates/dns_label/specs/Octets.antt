-- Octets as numbers.
use Rattle.std.specs.Prelude.{◌<◌, ◌^◌, ℕ, List}
use Rattle.std.specs.List.{AllByRecursion}

-- a number of eight bits
abbrev pub IsOctet : ℕ → Type 0
IsOctet octet = octet < 2 ^ 8

-- a list of such numbers
abbrev pub AreOctets : List ℕ → Type 0
AreOctets octets = AllByRecursion IsOctet octets
