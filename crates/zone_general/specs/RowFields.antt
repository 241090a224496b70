-- The fields of further data. Only contracts inside the crate name it.
use Rattle.std.specs.Prelude.{◌≡◌, ℕ, List, [], ◌++◌}
use Rattle.dns_scan.specs.Token.{Token}
use Rattle.dns_fields.specs.Fields.{Field, octets as octets_of}
use Rattle.dns_fields_more.specs.Text.{ScansFurther}
use Rattle.dns_zonefile.specs.Statement.{Names}

-- the tokens are a row of fields of the further type, whose octets follow the old ones
abbrev pub HasFields : Names → ℕ → List Token → List ℕ → List ℕ → Type 0
HasFields names rtype tokens old new =
    (row : List Field) × ScansFurther names rtype row tokens [] × (new ≡ old ++ octets_of row)

-- the tokens are no such row
abbrev pub HasNoFields : Names → ℕ → List Token → Type 0
HasNoFields names rtype tokens = (row : List Field) → ScansFurther names rtype row tokens [] → ⊥
