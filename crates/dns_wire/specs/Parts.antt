-- Runs of a name's labels, by places in its octets.
use Rattle.std.specs.Prelude.{◌≡◌, ◌+◌, ◌++◌, ℕ, List, length}
use Rattle.dns_label.specs.Name.{labels_wire}

-- a label begins at the place, or the labels end there
pub record IsLabelStart (labels : List (List ℕ)) (place : ℕ) : Type 0 where
  pub front : List (List ℕ)
  pub back : List (List ℕ)
  pub whole : labels ≡ front ++ back
  pub at : place ≡ length (labels_wire front)

-- the labels before the place
pub record IsFront (labels : List (List ℕ)) (place : ℕ) (part : List (List ℕ)) : Type 0 where
  pub back : List (List ℕ)
  pub whole : labels ≡ part ++ back
  pub at : place ≡ length (labels_wire part)

-- the labels from the place on
pub record IsBack (labels : List (List ℕ)) (place : ℕ) (part : List (List ℕ)) : Type 0 where
  pub front : List (List ℕ)
  pub whole : labels ≡ front ++ part
  pub at : place ≡ length (labels_wire front)

-- the labels between the two places
pub record IsBetween (labels : List (List ℕ)) (start end : ℕ) (part : List (List ℕ)) : Type 0 where
  pub front : List (List ℕ)
  pub back : List (List ℕ)
  pub whole : labels ≡ front ++ (part ++ back)
  pub from : start ≡ length (labels_wire front)
  pub to : end ≡ start + length (labels_wire part)
