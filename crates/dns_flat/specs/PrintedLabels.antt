-- How relative names are printed, and names whose labels are seen one by one (RFC 1035 5.1).
use Rattle.std.specs.Prelude.{ℕ, List, [], ◌∷◌, ◌++◌, ◌+◌, length, take, drop}
use Rattle.std.specs.List.{flat_map}
use Rattle.dns_label.specs.Printed.{printed_label}

-- a dot before each label
abbrev pub printed_behind : List (List ℕ) → List ℕ
printed_behind labels = flat_map (λ label. 46 ∷ printed_label label) labels

-- a relative name: a dot between two labels
abbrev pub printed_relative : List (List ℕ) → List ℕ
printed_relative [] = []
printed_relative (label ∷ labels) = printed_label label ++ printed_behind labels

-- The labels of a name of either kind. The root's is empty and comes last: it adds the last dot, and the root alone is
-- a dot.
abbrev pub printed_seen : List (List ℕ) → List ℕ
printed_seen ([] ∷ labels) = 46 ∷ []
printed_seen labels = printed_relative labels

-- a text with this octet behind each label, in place of the one there
abbrev pub with_ends : ℕ → List (List ℕ) → List ℕ → List ℕ
with_ends mark [] text = text
with_ends mark (label ∷ labels) text =
    take (length label) text ++ mark ∷ with_ends mark labels (drop (length label + 1) text)
