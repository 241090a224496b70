-- The further types: data as a row of fields, by a table that is longer than that of `dns_fields`. In octets a field is one of a
-- kind that is there, and some have a rule of their own.
use Rattle.std.specs.Prelude.{◌≡◌, ◌≢◌, ◌<◌, ◌^◌, ℕ, Bool, true, false, List, [], ◌∷◌, length, Option, Some, None, ⊤, ◌==◌, if◌then◌else◌}
use Rattle.dns_fields.specs.Fields.{Kind, Field, kind_of, field_octets, octets, IsField, lowered}
use Rattle.dns_fields.specs.Fields as kinds
use Rattle.dns_field_texts.specs.TypeBitmap.{IsTypeBitmap}
use Rattle.dns_service_parameters.specs.Service.{HoldsParameters}
use Rattle.dns_field_texts.specs.Location.{HoldsLocation}
use Rattle.dns_fields_more.specs.declared.form.Form.{Form}
use Rattle.dns_fields_more.specs.declared.form.Form.TheVariants.{Number8, Number16, Number32, Name, CasedName, String, RestText, Rest16, Rest64, Rtype as RtypeForm, Algorithm, CertificateType, Time, Salt, Hash, Types, Parameters, Location, Eui48, Eui64}

-- the kind of a field of the form
abbrev pub kind_of_form : Form → Kind
kind_of_form Number8 = kinds.Number8
kind_of_form Number16 = kinds.Number16
kind_of_form Number32 = kinds.Number32
kind_of_form Name = kinds.Uncompressed
kind_of_form CasedName = kinds.Uncompressed
kind_of_form String = kinds.String
kind_of_form RestText = kinds.RestText
kind_of_form Rest16 = kinds.Rest16
kind_of_form Rest64 = kinds.Rest64
kind_of_form RtypeForm = kinds.Number16
kind_of_form Algorithm = kinds.Number8
kind_of_form CertificateType = kinds.Number16
kind_of_form Time = kinds.Number32
kind_of_form Salt = kinds.String
kind_of_form Hash = kinds.String
kind_of_form Types = kinds.Rest16
kind_of_form Parameters = kinds.Rest16
kind_of_form Location = kinds.Rest16
kind_of_form Eui48 = kinds.Rest16
kind_of_form Eui64 = kinds.Rest16

-- whether a field of the form has all octets that are left
abbrev pub is_last : Form → Bool
is_last RestText = true
is_last Rest16 = true
is_last Rest64 = true
is_last Types = true
is_last Parameters = true
is_last Location = true
is_last Eui48 = true
is_last Eui64 = true
is_last form = false

-- The table of the further types: LOC, NAPTR, CERT, RRSIG, NSEC, NSEC3, NSEC3PARAM, TLSA, SMIMEA, CDS, CDNSKEY, OPENPGPKEY, CSYNC,
-- ZONEMD, SVCB, HTTPS, EUI48, EUI64 and URI (RFC 1876 2, RFC 3403 4.1, RFC 4398 2, RFC 4034 3.1 and 4.1, RFC 5155 3.2 and 4.2,
-- RFC 6698 2.1, RFC 8162 2, RFC 7344 3, RFC 7929 2, RFC 7477 2.1, RFC 8976 2.2, RFC 9460 2.2, RFC 7043 3.1 and 4.1, RFC 7553 4).
abbrev pub further : List (ℕ × List Form)
further =
    (29, Location ∷ [])
    ∷ (35, Number16 ∷ Number16 ∷ String ∷ String ∷ String ∷ Name ∷ [])
    ∷ (37, CertificateType ∷ Number16 ∷ Algorithm ∷ Rest64 ∷ [])
    ∷ (46, RtypeForm ∷ Algorithm ∷ Number8 ∷ Number32 ∷ Time ∷ Time ∷ Number16 ∷ Name ∷ Rest64 ∷ [])
    ∷ (47, CasedName ∷ Types ∷ [])
    ∷ (50, Number8 ∷ Number8 ∷ Number16 ∷ Salt ∷ Hash ∷ Types ∷ [])
    ∷ (51, Number8 ∷ Number8 ∷ Number16 ∷ Salt ∷ [])
    ∷ (52, Number8 ∷ Number8 ∷ Number8 ∷ Rest16 ∷ [])
    ∷ (53, Number8 ∷ Number8 ∷ Number8 ∷ Rest16 ∷ [])
    ∷ (59, Number16 ∷ Algorithm ∷ Number8 ∷ Rest16 ∷ [])
    ∷ (60, Number16 ∷ Number8 ∷ Algorithm ∷ Rest64 ∷ [])
    ∷ (61, Rest64 ∷ [])
    ∷ (62, Number32 ∷ Number16 ∷ Types ∷ [])
    ∷ (63, Number32 ∷ Number8 ∷ Number8 ∷ Rest16 ∷ [])
    ∷ (64, Number16 ∷ CasedName ∷ Parameters ∷ [])
    ∷ (65, Number16 ∷ CasedName ∷ Parameters ∷ [])
    ∷ (108, Eui48 ∷ [])
    ∷ (109, Eui64 ∷ [])
    ∷ (256, Number16 ∷ Number16 ∷ RestText ∷ [])
    ∷ []

-- the forms of the row of a number in a table, None where it has none
abbrev pub forms_in : List (ℕ × List Form) → ℕ → Option (List Form)
forms_in [] rtype = None
forms_in (row ∷ rows) rtype = if rtype == row.0 then Some row.1 else forms_in rows rtype

abbrev pub forms_of : ℕ → Option (List Form)
forms_of rtype = forms_in further rtype

-- the rule of a form for the octets of a field, beyond that of its kind
abbrev pub Keeps : Form → List ℕ → Type 0
Keeps Hash octets = octets ≢ 0 ∷ []
Keeps Types octets = IsTypeBitmap octets
Keeps Parameters octets = HoldsParameters octets
Keeps Location octets = HoldsLocation octets
Keeps Eui48 octets = length octets ≡ 6
Keeps Eui64 octets = length octets ≡ 8
Keeps form octets = ⊤

-- a field of the form
pub record IsFieldOf (form : Form) (field : Field) : Type 0 where
  pub kind : kind_of field ≡ kind_of_form form
  pub is_field : IsField field
  pub keeps : Keeps form (field_octets field)

-- the fields are of the forms, one each
abbrev pub AreFieldsOf : List Form → List Field → Type 0
AreFieldsOf [] [] = ⊤
AreFieldsOf [] (field ∷ row) = ⊥
AreFieldsOf (form ∷ forms) [] = ⊥
AreFieldsOf (form ∷ forms) (field ∷ row) = IsFieldOf form field × AreFieldsOf forms row

-- a row of a further type
pub record IsFurtherRow (rtype : ℕ) (row : List Field) : Type 0 where
  pub forms : List Form
  pub its : forms_of rtype ≡ Some forms
  pub each : AreFieldsOf forms row
  pub short : length (octets row) < 2 ^ 16

-- The octets are data of the further type: those of a row of it.
pub record IsFurtherData (rtype : ℕ) (data' : List ℕ) : Type 0 where
  pub row : List Field
  pub is_row : IsFurtherRow rtype row
  pub written : data' ≡ octets row

-- A field in canonical form: a name is in lower case where its form asks for it (RFC 4034 6.2, RFC 6840 5.1).
abbrev pub lowered_as : Form → Field → Field
lowered_as Name field = lowered field
lowered_as form field = field

abbrev pub lowered_row : List Form → List Field → List Field
lowered_row [] row = row
lowered_row (form ∷ forms) [] = []
lowered_row (form ∷ forms) (field ∷ row) = lowered_as form field ∷ lowered_row forms row

-- The canonical form of data of the further type: its fields in canonical form.
pub record IsFurtherCanonical (rtype : ℕ) (data' canonical : List ℕ) : Type 0 where
  pub forms : List Form
  pub its : forms_of rtype ≡ Some forms
  pub row : List Field
  pub is_row : IsFurtherRow rtype row
  pub written : data' ≡ octets row
  pub lowers : canonical ≡ octets (lowered_row forms row)
