-- The texts of the faults, by their numbers, as docs/ERRORS.md has them.
use Rattle.std.specs.Prelude.{◌==◌, ◌++◌, ℕ, List, [], ◌∷◌, Option, Some, None, codes, decimal, find, map, option_map}
use Rattle.std.specs.Borrow.{Bor}
use Rattle.std.specs.Option.{option_map_or}

-- The number of a fault, the text before the number that it names, and the text after that. If it names none, its text
-- is the first alone.
abbrev pub Row : Type 0
Row = ℕ × (List ℕ × Option (List ℕ))

-- the parts of a row in the code
abbrev pub seen : Bor (List ℕ) × Option (Bor (List ℕ)) → List ℕ × Option (List ℕ)
seen parts = (parts.0.now, option_map (λ back. back.now) parts.1)

abbrev pub parts_of : Option (Bor (List ℕ) × Option (Bor (List ℕ))) → Option (List ℕ × Option (List ℕ))
parts_of parts = option_map seen parts

-- the rows of a table in the code
abbrev pub rows_of : List (ℕ × (Bor (List ℕ) × Option (Bor (List ℕ)))) → List Row
rows_of table = map (λ row. (row.0, seen row.1)) table

unfoldable pub rows : List Row
rows =
    (1, (codes "out of memory", None)) ∷ (2, (codes "bad name", None)) ∷ (3, (codes "bad layout", None)) ∷
    (4, (codes "bad spelling", None)) ∷
    (101, (codes "class ANY", None)) ∷ (102, (codes "entry ", Some (codes ": text"))) ∷
    (103, (codes "entry ", Some (codes ": include"))) ∷ (104, (codes "entry ", Some (codes ": untyped data"))) ∷
    (105, (codes "entry ", Some (codes ": first record is not SOA"))) ∷ (106, (codes "entry ", Some (codes ": second SOA"))) ∷
    (107, (codes "entry ", Some (codes ": out of zone"))) ∷ (108, (codes "entry ", Some (codes ": cannot be spelled"))) ∷
    (109, (codes "no SOA", None)) ∷
    (201, (codes "query: short", None)) ∷ (202, (codes "query: response", None)) ∷ (203, (codes "query: opcode", None)) ∷
    (204, (codes "query: counts", None)) ∷ (205, (codes "query: malformed", None)) ∷ (206, (codes "query: not AXFR", None)) ∷
    (207, (codes "query: class ANY", None)) ∷ (208, (codes "query: trailing", None)) ∷
    (302, (codes "wrong zone", None)) ∷ (303, (codes "record ", Some (codes " does not fit"))) ∷
    (402, (codes "short message", None)) ∷ (403, (codes "wrong id", None)) ∷ (404, (codes "not a response", None)) ∷
    (405, (codes "wrong opcode", None)) ∷ (406, (codes "rcode ", Some [])) ∷ (407, (codes "wrong counts", None)) ∷
    (408, (codes "wrong question", None)) ∷ (409, (codes "record ", Some (codes ": malformed"))) ∷
    (410, (codes "first record is not the SOA", None)) ∷ (411, (codes "record ", Some (codes ": wrong class"))) ∷
    (412, (codes "record ", Some (codes ": out of zone"))) ∷ (413, (codes "record ", Some (codes ": SOA differs"))) ∷
    (414, (codes "record ", Some (codes ": behind the last SOA"))) ∷ (415, (codes "record ", Some (codes ": cannot be spelled"))) ∷
    (416, (codes "trailing octets", None)) ∷ (417, (codes "unfinished", None)) ∷ []

-- the row of a number in a table, if there is one
unfoldable pub parts_in : List Row → ℕ → Option (List ℕ × Option (List ℕ))
parts_in table code = option_map (λ row. row.1) (find (λ row. row.0 == code) table)

-- the text of these parts
abbrev pub text_of_parts : ℕ → List ℕ × Option (List ℕ) → List ℕ
text_of_parts number (front, None) = front
text_of_parts number (front, Some back) = front ++ (decimal number ++ back)

-- The text of a fault by its number and the number that it names. It has no octets if no fault has the number.
abbrev pub text_of : ℕ → ℕ → List ℕ
text_of code number = option_map_or (text_of_parts number) (parts_in rows code) []
