-- The labels that are found at a place of a message, as a function. If the message spells a name there (`Spelled`),
-- they are that name; else they mean nothing.
use Rattle.std.specs.Prelude.{◌+◌, ◌-◌, ◌*◌, ◌==◌, ℕ, zero, suc, List, [], ◌∷◌, length, take, drop, nat_lt}
use Rattle.std.specs.Prelude.{if◌then◌else◌}

-- what the octets at the place of a label begin with
pub data Head : Type 0 where
  Ends : Head
  Holds : List ℕ → Head
  Points : ℕ → Head

abbrev pub pointer_in : ℕ → List ℕ → Head
pointer_in first [] = Ends
pointer_in first (second ∷ rest) = Points (256 * (first - 192) + second)

abbrev pub head_in : List ℕ → Head
head_in [] = Ends
head_in (first ∷ rest) =
    if first == 0 then Ends
    else (if nat_lt first 64 then Holds (take first rest)
    else (if nat_lt first 192 then Ends else pointer_in first rest))

-- the labels that such a head leads to, if `more` gives those from another place on
abbrev pub labels_by : Head → ℕ → (ℕ → List (List ℕ)) → List (List ℕ)
labels_by Ends place more = []
labels_by (Holds label) place more = label ∷ more (place + 1 + length label)
labels_by (Points target) place more = more target

-- the labels from a place on, by looking at no more than this number of heads
unfoldable pub labels_from : ℕ → List ℕ → ℕ → List (List ℕ)
labels_from zero message place = []
labels_from (suc heads) message place =
    labels_by (head_in (drop place message)) place (labels_from heads message)

-- 127 labels, 255 pointers and the root have 383 heads
unfoldable pub labels_at : List ℕ → ℕ → List (List ℕ)
labels_at message place = labels_from 383 message place
