-- What texts of addresses of version 6 begin with. Only contracts inside the crate name it.
use Rattle.std.specs.Prelude.{◌≡◌, ◌<◌, ℕ, false, List, ◌∷◌, ◌++◌}
use Rattle.std.specs.Char.{digit_value}
use Rattle.std.specs.Net.Grammar.{IsGroup, IsGroups}

-- The text begins with a hexadecimal digit of this value, and the others are left.
pub record BeginsWithHexDigit (text : List ℕ) (value : ℕ) (left : List ℕ) : Type 0 where
  pub digit : ℕ
  pub is : text ≡ digit ∷ left
  pub writes : value ≡ digit_value digit
  pub low : value < 16

-- The text begins with a group that writes this segment, and the others are left.
pub record BeginsWithGroup (text : List ℕ) (segment : ℕ) (left : List ℕ) : Type 0 where
  pub digits : List ℕ
  pub is : text ≡ digits ++ left
  pub group : IsGroup digits segment

-- The text begins with groups that write these segments, with colons between them, and the others are left.
pub record BeginsWithGroups (text segments left : List ℕ) : Type 0 where
  pub front : List ℕ
  pub is : text ≡ front ++ left
  pub groups : IsGroups false front segments
