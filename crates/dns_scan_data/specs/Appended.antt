-- Fields and their rows that are scanned and appended to octets.
use Rattle.std.specs.Prelude.{◌≡◌, ℕ, List, ◌++◌, map}
use Rattle.dns_scan.specs.Token.{Token}
use Rattle.dns_fields.specs.Fields.{Field, Kind, field_octets, kind_of, octets}
use Rattle.dns_fields.specs.Scanned.{ScansData, ScansField, ScansRow}

-- the new octets begin with the old ones
pub record GoesOn (old new : List ℕ) : Type 0 where
  pub more : List ℕ
  pub is : new ≡ old ++ more

-- The tokens begin with a field of the kind, and these are left; the field's octets follow the old ones.
pub record AppendsField (names : List ℕ → List (List ℕ) → Type 0) (its : Kind) (tokens left : List Token) (old new : List ℕ) : Type 0 where
  pub field : Field
  pub kind : kind_of field ≡ its
  pub scans : ScansField names field tokens left
  pub behind : new ≡ old ++ field_octets field

-- the same of a row of fields of these kinds
pub record AppendsRow (names : List ℕ → List (List ℕ) → Type 0) (kinds : List Kind) (tokens left : List Token) (old new : List ℕ) : Type 0 where
  pub row : List Field
  pub are : map kind_of row ≡ kinds
  pub scans : ScansRow names row tokens left
  pub behind : new ≡ old ++ octets row

-- the same of the fields of data of the type
pub record AppendsTyped (names : List ℕ → List (List ℕ) → Type 0) (rtype : ℕ) (tokens left : List Token) (old new : List ℕ) : Type 0 where
  pub row : List Field
  pub scans : ScansData names rtype row tokens left
  pub behind : new ≡ old ++ octets row
