-- Labels that are written one after another, each after its length (RFC 1035, section 3.1).
use Rattle.std.specs.Prelude.{◌≡◌, ◌≤◌, ℕ, zero, suc, List, [], ◌∷◌, length, take, drop}
use Rattle.std.specs.List.{AllByRecursion}
use Rattle.dns_label.specs.Name.{labels_wire}

-- the labels in octets, as a function: at most this number of them
unfoldable pub labels_within : ℕ → List ℕ → List (List ℕ)
labels_within zero octets = []
labels_within (suc count) [] = []
labels_within (suc count) (len ∷ rest) = take len rest ∷ labels_within count (drop len rest)

-- all of them
unfoldable pub flat_labels : List ℕ → List (List ℕ)
flat_labels octets = labels_within (length octets) octets

abbrev pub IsShort : List ℕ → Type 0
IsShort label = length label ≤ 63

-- the octets are labels of at most 63 octets
pub record AreLabels (octets : List ℕ) : Type 0 where
  pub whole : octets ≡ labels_wire (flat_labels octets)
  pub short : AllByRecursion IsShort (flat_labels octets)
