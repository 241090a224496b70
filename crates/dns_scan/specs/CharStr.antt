-- Character strings (RFC 1035 3.3). A string is the list of its octets, at most 255.
use Rattle.std.specs.Prelude.{◌≡◌, ◌≤◌, ℕ, List, ◌∷◌, ◌++◌, length, map, min, Option, Some, None}
use Rattle.std.specs.Char.{to_ascii_lowercase}

-- the octets of a string on the wire: their number, and then the octets
abbrev pub string_wire : List ℕ → List ℕ
string_wire string = length string ∷ string

-- the octets are a string on the wire, and then the rest
pub record StartsWithString (octets string rest : List ℕ) : Type 0 where
  pub spelled : octets ≡ string_wire string ++ rest
  pub short : length string ≤ 255

-- with ASCII letters in lower case
abbrev pub lower : List ℕ → List ℕ
lower string = map to_ascii_lowercase string

-- the most octets of a string that is built in a target with this limit; `None` is no limit
abbrev pub at_most_255 : Option ℕ → Option ℕ
at_most_255 None = Some 255
at_most_255 (Some bound) = Some (min bound 255)
