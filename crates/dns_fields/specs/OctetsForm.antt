-- Data as octets, every name in full: its fields there, and its canonical form (RFC 4034 6.2).
use Rattle.std.specs.Prelude.{◌≡◌, ◌+◌, ℕ, Bool, true, false, List, [], ◌∷◌, ◌++◌, length, map, None}
use Rattle.std.specs.Prelude.{if◌then◌else◌}
use Rattle.std.specs.Char.{to_ascii_lowercase}
use Rattle.std.specs.List.{AllByRecursion}
use Rattle.dns_label.specs.Labels.{labels_at}
use Rattle.dns_label.specs.Name.{wire}
use Rattle.dns_fields.specs.Fields.{Kind, Number8, Number16, Number32, Ipv4, Ipv6, Compressible, Uncompressed, String, Strings, Tag, RestText, Rest16, Rest64}
use Rattle.dns_fields.specs.Fields.{Field, kind_of, kinds_of, field_octets, IsField, IsRow, octets, canonical_octets}

-- the octets begin with the field, which is of the kind, and the rest is after it
pub record StartsWithField (whole : List ℕ) (kind : Kind) (field : Field) (rest : List ℕ) : Type 0 where
  pub is_kind : kind_of field ≡ kind
  pub is_field : IsField field
  pub written : whole ≡ field_octets field ++ rest

-- the octets are the fields of the row, which are of the kinds
pub record AreFields (whole : List ℕ) (kinds : List Kind) (row : List Field) : Type 0 where
  pub are_kinds : map kind_of row ≡ kinds
  pub each : AllByRecursion IsField row
  pub written : whole ≡ octets row

-- whether fields of the kind are names
abbrev pub is_name : Kind → Bool
is_name Compressible = true
is_name Uncompressed = true
is_name kind = false

-- whether a field of the kind has all octets that are left
abbrev pub is_last : Kind → Bool
is_last Strings = true
is_last RestText = true
is_last Rest16 = true
is_last Rest64 = true
is_last kind = false

-- the length of a string by its first octet
abbrev pub string_len : List ℕ → ℕ
string_len [] = 1
string_len (len ∷ rest) = 1 + len

-- The length of the field of the kind that octets begin with. If they begin with none, the value means nothing.
abbrev pub len_in : Kind → List ℕ → ℕ
len_in Number8 whole = 1
len_in Number16 whole = 2
len_in Number32 whole = 4
len_in Ipv4 whole = 4
len_in Ipv6 whole = 16
len_in Compressible whole = length (wire (labels_at whole 0))
len_in Uncompressed whole = length (wire (labels_at whole 0))
len_in String whole = string_len whole
len_in Tag whole = string_len whole
len_in kind whole = length whole

-- the octets of a field of the kind in canonical form: those of a name in lower case
abbrev pub form_of_kind : Kind → List ℕ → List ℕ
form_of_kind kind whole = if is_name kind then map to_ascii_lowercase whole else whole

-- Data of a type in canonical form: its fields with their names in lower case. Unknown data is its octets (RFC 4034
-- 6.2, RFC 3597 7).
pub data IsCanonicalData (rtype : ℕ) (data' canonical : List ℕ) : Type 0 where
  typed : (row : List Field) → IsRow rtype row → data' ≡ octets row → canonical ≡ canonical_octets row → IsCanonicalData rtype data' canonical
  unknown : kinds_of rtype ≡ None → canonical ≡ data' → IsCanonicalData rtype data' canonical
