-- The orders of names (RFC 4034, section 6.1, and RFC 4343).
use Rattle.std.specs.Prelude.{ℕ, List, map, reverse}
use Rattle.std.specs.declared.cmp.Ordering.{Ordering}
use Rattle.std.specs.Ordering.{nat_cmp}
use Rattle.std.specs.Cmp.Lexicographic.{slice_cmp}
use Rattle.std.specs.Char.{to_ascii_lowercase}
use Rattle.dns_label.specs.Name.{low}

-- labels by their octets in lower case; the end of a label is before any octet
abbrev pub label_order : List ℕ → List ℕ → Ordering
label_order label other = slice_cmp nat_cmp (map to_ascii_lowercase label) (map to_ascii_lowercase other)

-- labels from the right; a missing label is before any label
abbrev pub labels_order : List (List ℕ) → List (List ℕ) → Ordering
labels_order name other = slice_cmp (slice_cmp nat_cmp) (reverse (low name)) (reverse (low other))
