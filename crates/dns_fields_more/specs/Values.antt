-- Fields of forms in octets, every name in full.
use Rattle.std.specs.Prelude.{◌≡◌, ℕ, true, List, [], ◌++◌}
use Rattle.dns_fields.specs.Fields.{Field, field_octets, number8, number16, number32, uncompressed, string, rest_text, rest16, rest64}
use Rattle.dns_fields_more.specs.Forms.{IsFieldOf, is_last}
use Rattle.dns_fields_more.specs.declared.form.Form.{Form}
use Rattle.dns_fields_more.specs.declared.form.Form.TheVariants as form
use Rattle.dns_fields_more.specs.declared.value.Value.{Value}
use Rattle.dns_fields_more.specs.declared.value.Value.TheVariants as value

-- all octets that are left, as a field of the form
abbrev pub rest_field : Form → List ℕ → Field
rest_field form.RestText octets = rest_text octets
rest_field form.Rest64 octets = rest64 octets
rest_field form octets = rest16 octets

-- the field that a value is
abbrev pub field_of : Form → Value → Field
field_of form (value.Number8 n) = number8 n
field_of form (value.Number16 n) = number16 n
field_of form (value.Number32 n) = number32 n
field_of form (value.Name name) = uncompressed name
field_of form (value.String octets) = string octets
field_of form (value.Rest octets) = rest_field form octets.now

-- The octets begin with a field of the form, and the rest is after it: nothing, if the field has all octets that are left.
pub record StandsIn (form : Form) (octets : List ℕ) (field : Field) (rest : List ℕ) : Type 0 where
  pub is : IsFieldOf form field
  pub written : octets ≡ field_octets field ++ rest
  pub last : is_last form ≡ true → rest ≡ []

-- they begin with no field of the form
abbrev pub NoneStandsIn : Form → List ℕ → Type 0
NoneStandsIn form octets = (field : Field) (rest : List ℕ) → StandsIn form octets field rest → ⊥
