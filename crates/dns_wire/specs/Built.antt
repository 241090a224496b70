-- Names while they are built label by label.
use Rattle.std.specs.Prelude.{◌≡◌, ◌≤◌, ◌+◌, ℕ, List, [], ◌∷◌, ◌++◌, length, take, drop, Option, Some, None, option_to_list, unwrap_or}
use Rattle.std.specs.Option.{option_map}
use Rattle.std.specs.List.{AllByRecursion}
use Rattle.dns_label.specs.Name.{IsLabel, labels_wire}
use Rattle.dns_label.specs.Labels.{labels_at}

-- what is built: the finished labels, and the octets of the open label if one is open
pub record Built : Type 0 where
  pub finished : List (List ℕ)
  pub begun : Option (List ℕ)

abbrev pub nothing_built : Built
nothing_built = record { finished = []; begun = None }

-- all labels, the open one last
abbrev pub labels_built : Built → List (List ℕ)
labels_built built = built.finished ++ option_to_list built.begun

-- the number of octets that they take, each label with its length
abbrev pub built_len : Built → ℕ
built_len built = length (labels_wire (labels_built built))

-- the number of octets of the open label
abbrev pub open_len : Built → ℕ
open_len built = length (unwrap_or built.begun [])

-- the open label goes on with octets, or a new one begins with them
abbrev pub with_octets : Built → List ℕ → Built
with_octets built [] = built
with_octets built (octet ∷ octets) =
    record { finished = built.finished; begun = Some (unwrap_or built.begun [] ++ octet ∷ octets) }

-- no label is open any more
abbrev pub ended : Built → Built
ended built = record { finished = labels_built built; begun = None }

-- a whole label after them, unless it has no octets
abbrev pub with_label : Built → List ℕ → Built
with_label built [] = ended built
with_label built (octet ∷ octets) = record { finished = labels_built built ++ (octet ∷ octets) ∷ []; begun = None }

-- whole labels alone
abbrev pub labels_ended : List (List ℕ) → Built
labels_ended labels = record { finished = labels; begun = None }

-- whole labels after them
abbrev pub with_labels : Built → List (List ℕ) → Built
with_labels built labels = labels_ended (labels_built built ++ labels)

-- These octets hold what is built, and the length of the open label is at the place `head`.
pub record StandsFor (octets : List ℕ) (head : Option ℕ) (built : Built) : Type 0 where
  pub each : AllByRecursion IsLabel (labels_built built)
  pub whole : octets ≡ labels_wire (labels_built built)
  pub few : length octets ≤ 254
  pub place : head ≡ option_map (λ _. length (labels_wire built.finished)) built.begun

-- what octets hold, given the place of the open label's length
abbrev pub built_of : List ℕ → Option ℕ → Built
built_of octets None = record { finished = labels_at octets 0; begun = None }
built_of octets (Some place) = record { finished = labels_at (take place octets) 0; begun = Some (drop (place + 1) octets) }
