-- The tokens that a row of a further type is printed as.
use Rattle.std.specs.Prelude.{◌≡◌, ◌≢◌, ℕ, List, [], ◌∷◌, map, Some, ⊤}
use Rattle.std.specs.List.{AllZip}
use Rattle.dns_scan.specs.Token.{Token}
use Rattle.dns_text.specs.Document.Piece.{Token as printed}
use Rattle.dns_text.specs.DocumentRows.{WritesToken}
use Rattle.dns_fields.specs.Fields.{Field, field_octets}
use Rattle.dns_fields_more.specs.Forms.{forms_of}
use Rattle.dns_fields_more.specs.Text.{PrintsForms}
use Rattle.dns_fields_more.specs.declared.form.Form.{Form}
use Rattle.dns_fields_more.specs.declared.form.Form.TheVariants.{Rest16, Rest64}

-- The row is printed as these tokens: each piece of it is a text, and the text is that of a token.
pub record IsPrintedAs (rtype : ℕ) (row : List Field) (tokens : List Token) : Type 0 where
  pub forms : List Form
  pub its : forms_of rtype ≡ Some forms
  pub texts : List (List ℕ)
  pub prints : PrintsForms forms row (map printed texts)
  pub writes : AllZip WritesToken tokens texts

-- A rest in base 16 or 64 has an octet at least, since a text without one is not read.
abbrev pub HasRest : Form → Field → Type 0
HasRest Rest16 field = field_octets field ≢ []
HasRest Rest64 field = field_octets field ≢ []
HasRest form field = ⊤

abbrev pub HaveRests : List Form → List Field → Type 0
HaveRests [] row = ⊤
HaveRests (form ∷ forms) [] = ⊤
HaveRests (form ∷ forms) (field ∷ row) = HasRest form field × HaveRests forms row

-- no rest of the row that is written in base 16 or 64 is empty
abbrev pub HasNoEmptyRest : ℕ → List Field → Type 0
HasNoEmptyRest rtype row = (forms : List Form) → forms_of rtype ≡ Some forms → HaveRests forms row
