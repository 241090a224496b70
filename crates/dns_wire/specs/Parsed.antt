-- Names in messages.
use Rattle.std.specs.Prelude.{◌≡◌, ℕ, List, [], Option, Some, None, length, take, drop}
use Rattle.dns_label.specs.Name.{with_root, wire}
use Rattle.dns_label.specs.Spelled.{DecodesName}
use Rattle.dns_label.specs.Labels.{labels_at}

-- a name is read at the place
pub record IsReadAt (message : List ℕ) (place : ℕ) : Type 0 where
  pub next : ℕ
  pub reads : DecodesName message place (labels_at message place) next

-- the labels from the place on, the root's last; none if there is no place
abbrev pub labels_left : List ℕ → Option ℕ → List (List ℕ)
labels_left message None = []
labels_left message (Some place) = with_root (labels_at message place)

abbrev pub IsLeft : List ℕ → Option ℕ → Type 0
IsLeft message None = Unit {0}
IsLeft message (Some place) = ∥ IsReadAt message place ∥₁

-- the name that is read at the place is written there in its wire form, without a pointer
abbrev pub IsWrittenAt : List ℕ → ℕ → Type 0
IsWrittenAt message place =
    take (length (wire (labels_at message place))) (drop place message) ≡ wire (labels_at message place)

-- the labels from this number on are those that are left at the place
pub record LabelsStandAt (message : List ℕ) (labels : List (List ℕ)) (index : ℕ) (place : Option ℕ) : Type 0 where
  pub left : IsLeft message place
  pub is : drop index labels ≡ labels_left message place
