-- Data of a further type, held as its octets: which field is where, its canonical form, and how it compares.
use Rattle.std.specs.Prelude.{◌≡◌, ℕ, List, [], ◌∷◌, take, drop, slice_get, slice_index, Option, Some, option_map, option_and_then, unwrap_or}
use Rattle.std.specs.Int.{from_be_bytes, w16, w32}
use Rattle.dns_label.specs.Labels.{labels_at}
use Rattle.dns_fields.specs.Fields.{Kind, Field, field_at, field_octets, octets, number8, number16, number32, uncompressed, string, rest_text, rest16, rest64}
use Rattle.dns_fields.specs.Fields as kinds
use Rattle.dns_fields.specs.OctetsForm.{len_in}
use Rattle.dns_fields_more.specs.Forms.{IsFurtherData, IsFurtherRow, AreFieldsOf, forms_of, kind_of_form, lowered_row}
use Rattle.dns_fields_more.specs.declared.form.Form.{Form}
use Rattle.dns_fields_more.specs.declared.form.Form.TheVariants.{Salt, Hash}

-- the octets from the place on are data of the type
pub record IsFurtherAt (rtype : ℕ) (message : List ℕ) (place : ℕ) (data' : List ℕ) : Type 0 where
  pub octets : data' ≡ drop place message
  pub are : IsFurtherData rtype data'

-- The octets are data of the type, and this is its field at the place, counted from 0.
pub record IsFieldAt (rtype : ℕ) (data' : List ℕ) (place : ℕ) (field : Field) : Type 0 where
  pub row : List Field
  pub is_row : IsFurtherRow rtype row
  pub written : data' ≡ octets row
  pub there : field_at place row ≡ Some field

-- the form and the kind of the field that data of the type has at the place
abbrev pub form_at : ℕ → ℕ → Option Form
form_at rtype place = option_and_then (λ forms. slice_get forms place) (forms_of rtype)

abbrev pub kind_at : ℕ → ℕ → Option Kind
kind_at rtype place = option_map kind_of_form (form_at rtype place)

-- the octets are fields of the forms, one after another, and this is the one at the place
pub record HasField (forms : List Form) (whole : List ℕ) (place : ℕ) (field : Field) : Type 0 where
  pub row : List Field
  pub each : AreFieldsOf forms row
  pub written : whole ≡ octets row
  pub there : field_at place row ≡ Some field

-- the field of the kind that these octets are; further types have fields of no other kinds
abbrev pub field_read : Kind → List ℕ → Field
field_read kinds.Number8 octets = number8 (slice_index octets 0)
field_read kinds.Number16 octets = number16 (from_be_bytes w16 octets)
field_read kinds.Number32 octets = number32 (from_be_bytes w32 octets)
field_read kinds.Uncompressed octets = uncompressed (labels_at octets 0)
field_read kinds.String octets = string (drop 1 octets)
field_read kinds.RestText octets = rest_text octets
field_read kinds.Rest64 octets = rest64 octets
field_read kind octets = rest16 octets

-- the fields of the forms that these octets are, one after another
abbrev pub fields_read : List Form → List ℕ → List Field
fields_read [] octets = []
fields_read (form ∷ forms) octets =
    field_read (kind_of_form form) (take (len_in (kind_of_form form) octets) octets)
    ∷ fields_read forms (drop (len_in (kind_of_form form) octets) octets)

abbrev pub forms_or_none : ℕ → List Form
forms_or_none rtype = unwrap_or (forms_of rtype) []

-- the row of data of the type
unfoldable pub row_read : ℕ → List ℕ → List Field
row_read rtype data' = fields_read (forms_or_none rtype) data'

-- The field of the form as it compares: a salt and a hash are binary, so that they are their octets as they are, behind the length.
abbrev pub compared : Form → Field → Field
compared Salt field = rest16 (field_octets field)
compared Hash field = rest16 (field_octets field)
compared form field = field

-- the fields of the forms as they compare
abbrev pub compared_fields : List Form → List Field → List Field
compared_fields [] row = row
compared_fields (form ∷ forms) [] = []
compared_fields (form ∷ forms) (field ∷ row) = compared form field ∷ compared_fields forms row

-- the fields of the forms that these octets are, as they compare
abbrev pub compared_read : List Form → List ℕ → List Field
compared_read forms octets = compared_fields forms (fields_read forms octets)

-- the row of data of the type, as it compares
unfoldable pub compared_row : ℕ → List ℕ → List Field
compared_row rtype data' = compared_read (forms_or_none rtype) data'

-- the octets of fields of the forms in canonical form
abbrev pub lowered_octets : List Form → List ℕ → List ℕ
lowered_octets forms whole = octets (lowered_row forms (fields_read forms whole))

-- the canonical form of data of the type (RFC 4034 6.2, RFC 6840 5.1)
unfoldable pub canonical_of : ℕ → List ℕ → List ℕ
canonical_of rtype data' = lowered_octets (forms_or_none rtype) data'
