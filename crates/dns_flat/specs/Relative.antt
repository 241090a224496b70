-- Places of labels in the octets of a relative name.
use Rattle.std.specs.Prelude.{◌≡◌, ◌≤◌, ℕ, List, Option, Some, None, length, drop}
use Rattle.dns_label.specs.Name.{labels_wire}

-- the octets from the place on are those of the labels from this one on
abbrev pub StandsIn : List ℕ → List (List ℕ) → ℕ → Option ℕ → Type 0
StandsIn octets labels index (Some place) = (place ≤ length octets) × (drop place octets ≡ labels_wire (drop index labels))
StandsIn octets labels index None = ⊥
