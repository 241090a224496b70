-- Unknown data as text, after its marker (RFC 3597 5).
use Rattle.std.specs.Prelude.{◌≡◌, ◌^◌, ℕ, List, [], ◌∷◌, length}
use Rattle.std.specs.Str.{chars}
use Rattle.dns_name.specs.Mnemonic.{number_spelled, type_read}
use Rattle.dns_name.specs.Unknown.{UnknownData}
use Rattle.dns_scan.specs.Encodings.{Decodes16}
use Rattle.dns_scan.specs.Scans.{ScansWord}
use Rattle.dns_scan.specs.Token.{Token, IsEntry, IsWord, marker}

-- a word for the number of octets, and then words of base 16, joined, for the octets themselves
pub record IsUnknownData (tokens : List Token) (octets : List ℕ) : Type 0 where
  pub words : List Token
  pub number : ScansWord (number_spelled (2 ^ 16)) tokens (length octets) words
  pub text : List ℕ
  pub joined : IsEntry IsWord words text
  pub decodes : Decodes16 (chars text) octets

-- a word for the type, the marker, and the data after it to the end of the entry
pub record ScansUnknown (tokens : List Token) (rdata : UnknownData) (left : List Token) : Type 0 where
  pub words : List Token
  pub of_type : ScansWord type_read tokens rdata.number (marker ∷ words)
  pub rest : IsUnknownData words rdata.octets
  pub whole : left ≡ []
