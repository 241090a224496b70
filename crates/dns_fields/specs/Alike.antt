-- How rows of one type compare: up to the ASCII case of names (RFC 4343) and of tags (RFC 8659 4.1), and of single
-- strings, which no standard asks for; and canonically, by their canonical octets (RFC 4034 6.3).
use Rattle.std.specs.Prelude.{ℕ, Bool, List, map, nat_eq}
use Rattle.std.specs.Char.{to_ascii_lowercase}
use Rattle.std.specs.Ordering.{on, nat_cmp}
use Rattle.std.specs.Cmp.Lexicographic.{pointwise, slice_cmp}
use Rattle.std.specs.declared.cmp.Ordering.{Ordering}
use Rattle.dns_label.specs.Name.{low}
use Rattle.dns_fields.specs.Fields.{Field, number8, number16, number32, ipv4, ipv6, compressible, uncompressed, string, strings, tag, rest_text, rest16, rest64, field_octets, canonical_octets}

-- the field with the letters in lower case whose case doesn't count
abbrev pub folded : Field → Field
folded (compressible name) = compressible (low name)
folded (uncompressed name) = uncompressed (low name)
folded (string octets) = string (map to_ascii_lowercase octets)
folded (tag octets) = tag (map to_ascii_lowercase octets)
folded (number8 n) = number8 n
folded (number16 n) = number16 n
folded (number32 n) = number32 n
folded (ipv4 octets) = ipv4 octets
folded (ipv6 octets) = ipv6 octets
folded (strings each) = strings each
folded (rest_text octets) = rest_text octets
folded (rest16 octets) = rest16 octets
folded (rest64 octets) = rest64 octets

-- what counts of a row: the octets of each folded field
abbrev pub keys : List Field → List (List ℕ)
keys row = map (λ field. field_octets (folded field)) row

-- rows are equal whose keys are, and ordered field by field by their keys
unfoldable pub rows_eq : List Field → List Field → Bool
rows_eq = on keys (pointwise (pointwise nat_eq))

unfoldable pub rows_cmp : List Field → List Field → Ordering
rows_cmp = on keys (slice_cmp (slice_cmp nat_cmp))

-- the octet order of canonical data, a beginning first
unfoldable pub canonical_rows_cmp : List Field → List Field → Ordering
canonical_rows_cmp = on canonical_octets (slice_cmp nat_cmp)
