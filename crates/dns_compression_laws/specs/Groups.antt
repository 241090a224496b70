-- Messages for groups of elements, such as records: a head, and then the parts of each element.
use Rattle.std.specs.Prelude.{ℕ, List, [], ◌∷◌, length}
use Rattle.dns_name.specs.Spelling.{Spelling}
use Rattle.dns_name.specs.Page.{Parts}
use Rattle.dns_name.specs.Page.Parts.{End}
use Rattle.dns_compression_laws.specs.Cost.{written}
use Rattle.dns_compression_laws.specs.Joined.{join_parts, AreAsLong}

-- the parts of the elements, one after another
abbrev pub items : {X : Type 0} → (X → Parts) → List X → Parts
items item [] = End
items item (x ∷ xs) = join_parts (item x) (items item xs)

-- the head for each group has the same names, and as many octets
abbrev pub HasOneHead : {X : Type 0} → (List X → Parts) → Type 0
HasOneHead {X} head = (group other : List X) → AreAsLong (head group) (head other)

-- the parts of a message for a group, and how many octets it takes
abbrev pub group_parts : {X : Type 0} → (List X → Parts) → (X → Parts) → List X → Parts
group_parts head item group = join_parts (head group) (items item group)

abbrev pub group_size : {X : Type 0} → Spelling → (List X → Parts) → (X → Parts) → List X → ℕ
group_size s head item group = length (written s (group_parts head item group))
