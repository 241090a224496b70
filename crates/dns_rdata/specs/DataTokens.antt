-- Data of any type that a record may have, and the tokens that it is printed as.
use Rattle.std.specs.Prelude.{◌<◌, ◌^◌, ⊤, ℕ, List, length}
use Rattle.dns_label.specs.Octets.{AreOctets}
use Rattle.dns_name.specs.UnknownText.{unknown_words}
use Rattle.dns_fields.specs.Fields.{octets, IsRow}
use Rattle.dns_fields.specs.Shown.{TagsAreSome, row_tokens}
use Rattle.dns_rdata.specs.Data.{Data, typed, unknown_data}

-- a row of its type, or octets that are not looked into, at most 65,535 of them (RFC 1035 3.2.1)
abbrev pub IsAnyData : Data → Type 0
IsAnyData (typed number row) = IsRow number row × AreOctets (octets row)
IsAnyData (unknown_data unknown) = (length unknown.octets < 2 ^ 16) × AreOctets unknown.octets

-- no tag in it is empty
abbrev pub HasNoEmptyTag : Data → Type 0
HasNoEmptyTag (typed number row) = TagsAreSome row
HasNoEmptyTag (unknown_data unknown) = ⊤

-- the tokens of its fields, or the words of unknown data (RFC 3597 5)
abbrev pub tokens_of : Data → List (List ℕ)
tokens_of (typed number row) = row_tokens row
tokens_of (unknown_data unknown) = unknown_words unknown.octets
