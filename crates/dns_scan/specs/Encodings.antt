-- The three encodings by their names. A text is here the list of its characters; that of octets is of ASCII, so its
-- characters are its octets.
use Rattle.std.specs.Prelude.{ℕ, List}
use Rattle.dns_scan.specs.declared.encoding.base.Base.TheVariants.{Sixteen, ThirtyTwoHex, SixtyFour}
use Rattle.dns_scan.specs.Base.{encoded, Decodes}

-- base 16 (RFC 4648 8)
abbrev pub encoded_16 : List ℕ → List ℕ
encoded_16 octets = encoded Sixteen octets

abbrev pub Decodes16 : List ℕ → List ℕ → Type 0
Decodes16 text octets = Decodes Sixteen text octets

-- base 32 with the hex alphabet, without padding (RFC 4648 7)
abbrev pub encoded_32 : List ℕ → List ℕ
encoded_32 octets = encoded ThirtyTwoHex octets

abbrev pub Decodes32 : List ℕ → List ℕ → Type 0
Decodes32 text octets = Decodes ThirtyTwoHex text octets

-- base 64 with padding (RFC 4648 4)
abbrev pub encoded_64 : List ℕ → List ℕ
encoded_64 octets = encoded SixtyFour octets

abbrev pub Decodes64 : List ℕ → List ℕ → Type 0
Decodes64 text octets = Decodes SixtyFour text octets
