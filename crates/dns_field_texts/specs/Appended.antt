-- Octets that are appended to others.
use Rattle.std.specs.Prelude.{◌≡◌, ℕ, List, ◌∷◌, ◌++◌, length}

-- the new octets begin with the old ones
pub record GoesOn (old new : List ℕ) : Type 0 where
  pub more : List ℕ
  pub is : new ≡ old ++ more

-- octets after their length octet (RFC 5155, section 3.2)
abbrev pub counted : List ℕ → List ℕ
counted octets = length octets ∷ octets

-- octets of which this holds follow the old ones
pub record Appends (Are : List ℕ → Type 0) (old new : List ℕ) : Type 0 where
  pub octets : List ℕ
  pub are : Are octets
  pub behind : new ≡ old ++ octets

-- octets of which this holds follow the old ones and their length octet
pub record AppendsCounted (Are : List ℕ → Type 0) (old new : List ℕ) : Type 0 where
  pub octets : List ℕ
  pub are : Are octets
  pub behind : new ≡ old ++ counted octets
