-- Labels as octets on the wire, and up to ASCII case (RFC 1035, section 3.1, and RFC 4343).
use Rattle.std.specs.Prelude.{ℕ, List, ◌∷◌, length, map}
use Rattle.std.specs.Char.{to_ascii_lowercase}

-- the length of a label, then its octets
abbrev pub label_wire : List ℕ → List ℕ
label_wire label = length label ∷ label

-- a label with its ASCII letters in lower case
abbrev pub low_label : List ℕ → List ℕ
low_label label = map to_ascii_lowercase label
