-- The words of a record's row between its owner and its data: a TTL and a class, if they are stated, and a type (RFC 1035 5.1).
use Rattle.std.specs.Prelude.{◌≡◌, ◌^◌, ℕ, List, [], ◌∷◌, Option, Some, None, true, false, ◌++◌}
use Rattle.std.specs.List.{list_all}
use Rattle.std.specs.Char.{is_ascii_digit}
use Rattle.dns_values.specs.Mnemonic.{class_read, number_spelled, type_read}
use Rattle.dns_scan.specs.Token.{Token, IsWord}

-- a token of digits is a TTL; any other word is a type, and only if it is none, a class
abbrev pub IsTtl : ℕ → Token → Type 0
IsTtl seconds token = (text : List ℕ) × IsWord text token × (list_all is_ascii_digit text ≡ true)
    × (number_spelled (2 ^ 32) text ≡ Some seconds)

abbrev pub IsType : ℕ → Token → Type 0
IsType rtype token = (text : List ℕ) × IsWord text token × (list_all is_ascii_digit text ≡ false) × (type_read text ≡ Some rtype)

abbrev pub IsClass : ℕ → Token → Type 0
IsClass class token = (text : List ℕ) × IsWord text token × (list_all is_ascii_digit text ≡ false) × (type_read text ≡ None)
    × (class_read text ≡ Some class)

-- the tokens before a record's type: its TTL and its class, in either order, each stated or not
pub data States : List Token → Option ℕ → Option ℕ → Type 0 where
  nothing : States [] None None
  ttl : {token : Token} {seconds : ℕ} → IsTtl seconds token → States (token ∷ []) (Some seconds) None
  class : {token : Token} {number : ℕ} → IsClass number token → States (token ∷ []) None (Some number)
  ttl_class : {first second : Token} {seconds number : ℕ} → IsTtl seconds first → IsClass number second
      → States (first ∷ second ∷ []) (Some seconds) (Some number)
  class_ttl : {first second : Token} {seconds number : ℕ} → IsClass number first → IsTtl seconds second
      → States (first ∷ second ∷ []) (Some seconds) (Some number)

-- the tokens begin with a TTL and a class, if they are stated, and a type, and these are left
pub record HasHead (tokens : List Token) (ttl class : Option ℕ) (rtype : ℕ) (left : List Token) : Type 0 where
  pub before : List Token
  pub type_token : Token
  pub is : tokens ≡ before ++ type_token ∷ left
  pub states : States before ttl class
  pub type_is : IsType rtype type_token
