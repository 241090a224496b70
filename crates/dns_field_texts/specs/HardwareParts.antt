-- Parts of the text of a hardware address. Only contracts inside the crate name them.
use Rattle.std.specs.Prelude.{◌≡◌, ℕ, zero, suc, List, ◌∷◌, ◌++◌}
use Rattle.dns_field_texts.specs.Hardware.{IsHexPair, small_pair}

-- a minus sign stands before each octet but the first
abbrev pub IsBehind : ℕ → List ℕ → List ℕ → Type 0
IsBehind zero text behind = text ≡ behind
IsBehind (suc index) text behind = text ≡ 45 ∷ behind

-- the text begins with the two digits of an octet
pub record BeginsWithPair (text : List ℕ) (octet : ℕ) (behind : List ℕ) : Type 0 where
  pub pair : List ℕ
  pub is : IsHexPair pair octet
  pub written : text ≡ pair ++ behind

-- an octet in two digits, behind a minus sign
abbrev pub minus_pair : ℕ → List ℕ
minus_pair octet = 45 ∷ small_pair octet
