-- Fields of forms as text: the tokens of a row (RFC 1035 5.1).
use Rattle.std.specs.Prelude.{◌≡◌, ◌≢◌, ◌<◌, ◌≤◌, ◌++◌, ℕ, List, [], ◌∷◌, length, map, Some}
use Rattle.dns_scan.specs.Scans.{ScansWord}
use Rattle.dns_scan.specs.Token.{Token, Takes, IsWord}
use Rattle.dns_fields.specs.Fields.{Field, field_octets, octets, number8, number16, number32, string, rest16, rest64}
use Rattle.dns_fields.specs.Scanned.{ScansField}
use Rattle.dns_text.specs.Document.{Piece}
use Rattle.dns_text.specs.Document.Piece.{Token as printed}
use Rattle.dns_text.specs.Documents.{block_of}
use Rattle.dns_text.specs.Writing.{Adds}
use Rattle.dns_fields.specs.Shown.{field_pieces}
use Rattle.dns_field_texts.specs.TypeWords.{type_word_read, type_word_written}
use Rattle.dns_field_texts.specs.NumberedWords.{algorithm_read, certificate_type_read}
use Rattle.dns_field_texts.specs.Time.{time_read, time_written}
use Rattle.dns_field_texts.specs.HashWords.{IsSaltWord, IsHashWord, salt_written, hash_written}
use Rattle.dns_field_texts.specs.Hardware.{IsHardwareText, hardware_written}
use Rattle.dns_field_texts.specs.TypeBitmap.{ScansTypes, type_pieces, types_in}
use Rattle.dns_service_parameters.specs.Service.{AreParameters, Parameter, octets_of}
use Rattle.dns_service_parameters.specs.ServiceText.{ScansParameters, parameter_text}
use Rattle.dns_field_texts.specs.Location.{IsLocation, Location, location_octets}
use Rattle.dns_field_texts.specs.LocationText.{ScansLocation, location_words}
use Rattle.dns_fields_more.specs.Forms.{AreFieldsOf, IsFieldOf, IsFurtherRow, forms_of}
use Rattle.dns_fields_more.specs.declared.form.Form.{Form}
use Rattle.dns_fields_more.specs.declared.form.Form.TheVariants.{Rest16, Rest64, Rtype as RtypeForm, Algorithm, CertificateType, Time, Salt, Hash, Types, Parameters, Location as LocationForm, Eui48, Eui64}

-- The tokens begin with the text of the field in this form, and these are left. A rest in base 16 or 64 has an octet at least. A field of
-- any other form is read as one of its kind.
abbrev pub SpellsForm : (List ℕ → List (List ℕ) → Type 0) → Form → Field → List Token → List Token → Type 0
SpellsForm names Rest16 (rest16 octets) tokens left = ScansField names (rest16 octets) tokens left × (octets ≢ [])
SpellsForm names Rest64 (rest64 octets) tokens left = ScansField names (rest64 octets) tokens left × (octets ≢ [])
SpellsForm names RtypeForm (number16 n) tokens left = ScansWord type_word_read tokens n left
SpellsForm names Algorithm (number8 n) tokens left = ScansWord algorithm_read tokens n left
SpellsForm names CertificateType (number16 n) tokens left = ScansWord certificate_type_read tokens n left
SpellsForm names Time (number32 n) tokens left = ScansWord time_read tokens n left
SpellsForm names Salt (string octets) tokens left = (text : List ℕ) × Takes (IsWord text) tokens left × IsSaltWord text octets
SpellsForm names Hash (string octets) tokens left = (text : List ℕ) × Takes (IsWord text) tokens left × IsHashWord text octets
SpellsForm names Types (rest16 octets) tokens left = ScansTypes tokens left octets
SpellsForm names Parameters (rest16 octets) tokens left =
    (parameters : List Parameter) × ScansParameters parameters tokens × (octets ≡ octets_of parameters) × (left ≡ [])
SpellsForm names LocationForm (rest16 octets) tokens left =
    (location : Location) × ScansLocation location tokens × (octets ≡ location_octets location) × (left ≡ [])
SpellsForm names Eui48 (rest16 octets) tokens left = (text : List ℕ) × Takes (IsWord text) tokens left × IsHardwareText 6 text octets
SpellsForm names Eui64 (rest16 octets) tokens left = (text : List ℕ) × Takes (IsWord text) tokens left × IsHardwareText 8 text octets
SpellsForm names form field tokens left = ScansField names field tokens left

-- They begin with the text of a field of the form, and these are left.
pub record ScansForm (names : List ℕ → List (List ℕ) → Type 0) (form : Form) (field : Field) (tokens left : List Token) : Type 0 where
  pub is : IsFieldOf form field
  pub spelled : SpellsForm names form field tokens left

-- they begin with no such text
abbrev pub NoFormScans : (List ℕ → List (List ℕ) → Type 0) → Form → List Token → Type 0
NoFormScans names form tokens = (field : Field) (left : List Token) → ScansForm names form field tokens left → ⊥

-- they begin with the texts of fields of the forms, in order and none missing
abbrev pub ScansForms : (List ℕ → List (List ℕ) → Type 0) → List Form → List Field → List Token → List Token → Type 0
ScansForms names [] [] tokens left = left ≡ tokens
ScansForms names [] (field ∷ row) tokens left = ⊥
ScansForms names (form ∷ forms) [] tokens left = ⊥
ScansForms names (form ∷ forms) (field ∷ row) tokens left =
    (behind : List Token) × ScansForm names form field tokens behind × ScansForms names forms row behind left

-- they begin with no such texts
abbrev pub NoFormsScan : (List ℕ → List (List ℕ) → Type 0) → List Form → List Token → Type 0
NoFormsScan names forms tokens = (row : List Field) (left : List Token) → ScansForms names forms row tokens left → ⊥

-- A field of the form is scanned, and its octets follow the old ones.
pub record AppendsForm (names : List ℕ → List (List ℕ) → Type 0) (form : Form) (tokens left : List Token) (old new : List ℕ) : Type 0 where
  pub field : Field
  pub scans : ScansForm names form field tokens left
  pub behind : new ≡ old ++ field_octets field

-- the same of fields of the forms
pub record AppendsForms (names : List ℕ → List (List ℕ) → Type 0) (forms : List Form) (tokens left : List Token) (old new : List ℕ) : Type 0 where
  pub row : List Field
  pub scans : ScansForms names forms row tokens left
  pub behind : new ≡ old ++ octets row

-- The field is printed as these pieces. A field of any other form is printed as one of its kind.
abbrev pub PrintsForm : Form → Field → List Piece → Type 0
PrintsForm RtypeForm (number16 n) pieces = pieces ≡ printed (type_word_written n) ∷ []
PrintsForm Time (number32 n) pieces = pieces ≡ printed (time_written n) ∷ []
PrintsForm Salt (string octets) pieces = pieces ≡ printed (salt_written octets) ∷ []
PrintsForm Hash (string octets) pieces = pieces ≡ printed (hash_written octets) ∷ []
PrintsForm Types (rest16 octets) pieces = pieces ≡ type_pieces (types_in octets)
PrintsForm Parameters (rest16 octets) pieces =
    (parameters : List Parameter) × AreParameters parameters × (octets ≡ octets_of parameters)
    × (pieces ≡ map printed (map parameter_text parameters))
PrintsForm LocationForm (rest16 octets) pieces =
    (location : Location) × IsLocation location × (octets ≡ location_octets location) × (pieces ≡ map printed (location_words location))
PrintsForm Eui48 (rest16 octets) pieces = pieces ≡ printed (hardware_written octets) ∷ []
PrintsForm Eui64 (rest16 octets) pieces = pieces ≡ printed (hardware_written octets) ∷ []
PrintsForm form field pieces = pieces ≡ field_pieces field

-- the fields of the forms are printed as these pieces, one after another
abbrev pub PrintsForms : List Form → List Field → List Piece → Type 0
PrintsForms [] [] pieces = pieces ≡ []
PrintsForms [] (field ∷ row) pieces = ⊥
PrintsForms (form ∷ forms) [] pieces = ⊥
PrintsForms (form ∷ forms) (field ∷ row) pieces =
    (first : List Piece) × (others : List Piece) × PrintsForm form field first × PrintsForms forms row others × (pieces ≡ first ++ others)

-- a formatter has printed the field
pub record ShowsForm {F : Type 0} (writes : F → List Piece → F → Type 0) (form : Form) (field : Field) (old new : F) : Type 0 where
  pub pieces : List Piece
  pub prints : PrintsForm form field pieces
  pub adds : Adds writes old pieces new

-- the octets are fields of the forms, which a formatter has printed one after another
pub record ShowsFields {F : Type 0} (writes : F → List Piece → F → Type 0) (forms : List Form) (whole : List ℕ) (old new : F) : Type 0 where
  pub row : List Field
  pub each : AreFieldsOf forms row
  pub written : whole ≡ octets row
  pub pieces : List Piece
  pub prints : PrintsForms forms row pieces
  pub adds : Adds writes old pieces new

-- the octets are data of the further type, which a formatter has printed as a block
pub record ShowsFurther {F : Type 0} (writes : F → List Piece → F → Type 0) (rtype : ℕ) (whole : List ℕ) (old new : F) : Type 0 where
  pub row : List Field
  pub is_row : IsFurtherRow rtype row
  pub written : whole ≡ octets row
  pub forms : List Form
  pub its : forms_of rtype ≡ Some forms
  pub pieces : List Piece
  pub prints : PrintsForms forms row pieces
  pub adds : Adds writes old (block_of pieces) new

-- The tokens begin with the text of a row of the forms, and these are left; its octets follow the old ones.
pub record ScansFurther (names : List ℕ → List (List ℕ) → Type 0) (rtype : ℕ) (row : List Field) (tokens left : List Token) : Type 0 where
  pub forms : List Form
  pub its : forms_of rtype ≡ Some forms
  pub scans : ScansForms names forms row tokens left
  pub short : length (octets row) ≤ 65535

-- the same, if the fields have more octets than a record's data may have (RFC 1035 3.2.1)
pub record ScansLongRow (names : List ℕ → List (List ℕ) → Type 0) (rtype : ℕ) (tokens : List Token) : Type 0 where
  pub forms : List Form
  pub row : List Field
  pub left : List Token
  pub its : forms_of rtype ≡ Some forms
  pub scans : ScansForms names forms row tokens left
  pub long : 65535 < length (octets row)

-- If the tokens do not begin with such a row of too many octets, they begin with none.
abbrev pub NoFurtherScans : (List ℕ → List (List ℕ) → Type 0) → ℕ → List Token → Type 0
NoFurtherScans names rtype tokens =
    (ScansLongRow names rtype tokens → ⊥) → (row : List Field) (left : List Token) → ScansFurther names rtype row tokens left → ⊥

-- data of the further type is scanned, and its octets follow the old ones
pub record AppendsFurther (names : List ℕ → List (List ℕ) → Type 0) (rtype : ℕ) (tokens left : List Token) (old new : List ℕ) : Type 0 where
  pub row : List Field
  pub scans : ScansFurther names rtype row tokens left
  pub behind : new ≡ old ++ octets row
