-- The suffixes of names, and the labels that names begin with.
use Rattle.std.specs.Prelude.{◌≡◌, ◌++◌, ℕ, List, [], ◌∷◌}

-- the list ends with the other
pub record EndsWith (whole end : List (List ℕ)) : Type 0 where
  pub front : List (List ℕ)
  pub whole_is : whole ≡ front ++ end

-- the list begins with the other
pub record StartsWith (whole start : List (List ℕ)) : Type 0 where
  pub rest : List (List ℕ)
  pub whole_is : whole ≡ start ++ rest

-- the list, the list without its first label, and so on down to the empty list
abbrev pub suffixes : List (List ℕ) → List (List (List ℕ))
suffixes [] = [] ∷ []
suffixes (label ∷ parent) = (label ∷ parent) ∷ suffixes parent
