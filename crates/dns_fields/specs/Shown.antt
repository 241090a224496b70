-- How data is printed: a block with its fields' texts.
use Rattle.std.specs.Prelude.{◌≡◌, ◌==◌, ℕ, List, [], ◌∷◌, ◌++◌, Option, Some, None, codes, decimal, map, if◌then◌else◌}
use Rattle.std.specs.List.{AllByRecursion, flat_map}
use Rattle.std.specs.Net.Text.{ipv4_text, hex_groups_text}
use Rattle.std.specs.Net.Addr.{segments_of}
use Rattle.dns_label.specs.Printed.{printed_name}
use Rattle.dns_scan.specs.Encodings.{encoded_16, encoded_64}
use Rattle.dns_scan.specs.StringText.{quoted_text, unquoted_text}
use Rattle.dns_text.specs.Document.{Piece}
use Rattle.dns_text.specs.Document.Piece.{Token, Comment}
use Rattle.dns_text.specs.Documents.{block_of}
use Rattle.dns_fields.specs.Fields.{Field, number8, number16, number32, ipv4, ipv6, compressible, uncompressed, string, strings, tag, rest_text, rest16, rest64}

-- one token, or none where it would be empty
abbrev pub one_unless_empty : List ℕ → List (List ℕ)
one_unless_empty [] = []
one_unless_empty (c ∷ text) = (c ∷ text) ∷ []

-- The tokens of a field: numbers in decimal; an address of four octets as these in decimal with dots between (RFC 1035 3.4.1),
-- one of sixteen in groups alone (RFC 5952 4); names with their last dot; strings in quotes, a tag without; base 16 in capitals
-- and base 64 (RFC 4648).
abbrev pub field_tokens : Field → List (List ℕ)
field_tokens (number8 n) = decimal n ∷ []
field_tokens (number16 n) = decimal n ∷ []
field_tokens (number32 n) = decimal n ∷ []
field_tokens (ipv4 octets) = ipv4_text octets ∷ []
field_tokens (ipv6 octets) = hex_groups_text (segments_of octets) ∷ []
field_tokens (compressible name) = printed_name name ∷ []
field_tokens (uncompressed name) = printed_name name ∷ []
field_tokens (string octets) = quoted_text octets ∷ []
field_tokens (strings each) = map quoted_text each
field_tokens (tag octets) = unquoted_text octets ∷ []
field_tokens (rest_text octets) = quoted_text octets ∷ []
field_tokens (rest16 octets) = one_unless_empty (encoded_16 octets)
field_tokens (rest64 octets) = one_unless_empty (encoded_64 octets)

abbrev pub row_tokens : List Field → List (List ℕ)
row_tokens row = flat_map field_tokens row

-- the tokens of a field, and those of a row, as pieces of a document
abbrev pub field_pieces : Field → List Piece
field_pieces field = map Token (field_tokens field)

abbrev pub row_pieces : List Field → List Piece
row_pieces row = map Token (row_tokens row)

-- the comments after the fields of a type, from the left; None after a field without one
abbrev pub comments_of : ℕ → List (Option (List ℕ))
comments_of rtype =
    if rtype == 6 then
    None ∷ None ∷ Some (codes "serial") ∷ Some (codes "refresh") ∷ Some (codes "retry") ∷ Some (codes "expire")
    ∷ Some (codes "minimum") ∷ []
    else []

-- the pieces of a row, each comment after its field
abbrev pub commented : List (Option (List ℕ)) → List Field → List Piece
commented [] row = row_pieces row
commented (comment ∷ comments) [] = []
commented (None ∷ comments) (field ∷ row) = field_pieces field ++ commented comments row
commented (Some comment ∷ comments) (field ∷ row) = field_pieces field ++ Comment comment ∷ commented comments row

-- the pieces of a type's data
abbrev pub data_pieces : ℕ → List Field → List Piece
data_pieces rtype row = commented (comments_of rtype) row

-- No tag of the row is empty: that of a CAA record has at least one character (RFC 8659 4.1), and text has no token for none.
abbrev pub TagsAreSome : List Field → Type 0
TagsAreSome row = AllByRecursion (λ field. field ≡ tag [] → ⊥) row
