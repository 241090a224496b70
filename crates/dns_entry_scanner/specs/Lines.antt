-- Lines of a text, which line feeds (10) end.
use Rattle.std.specs.Prelude.{ℕ, suc, ◌==◌, if◌then◌else◌, List, [], ◌∷◌, take}

-- the number of the line after these octets, from 1
abbrev pub line_behind : List ℕ → ℕ
line_behind [] = 1
line_behind (octet ∷ before) = if octet == 10 then suc (line_behind before) else line_behind before

-- the number of the line of a place in a text
abbrev pub line_at : List ℕ → ℕ → ℕ
line_at text place = line_behind (take place text)

-- what is behind the text's first line: after its line feed, or at the end
abbrev pub behind_line : List ℕ → List ℕ
behind_line [] = []
behind_line (octet ∷ text) = if octet == 10 then text else behind_line text
