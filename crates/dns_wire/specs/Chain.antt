-- Names of two parts.
use Rattle.std.specs.Prelude.{◌≡◌, ◌-◌, ◌<◌, ◌≤◌, ◌⊎◌, ℕ, List, [], ◌∷◌, Option}
use Rattle.dns_label.specs.Name.{IsName, with_root}

-- the labels before the root's
abbrev pub before_root : List (List ℕ) → List (List ℕ)
before_root [] = []
before_root ([] ∷ labels) = []
before_root ((octet ∷ text) ∷ labels) = (octet ∷ text) ∷ before_root labels

-- the labels are those of a name, with the root's last or without it
pub record AreOfName (labels : List (List ℕ)) : Type 0 where
  pub name : List (List ℕ)
  pub is_name : IsName name
  pub listed : (labels ≡ name) ⊎ (labels ≡ with_root name)

-- a label of two lists of labels has the place that it has in its own list
pub record StandsInOne (first second : ℕ → Option ℕ → Type 0) (count index : ℕ) (place : Option ℕ) : Type 0 where
  pub in_first : index < count → first index place
  pub in_second : count ≤ index → second (index - count) place
