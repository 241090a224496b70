-- Rows of fields of forms in octets.
use Rattle.std.specs.Prelude.{◌≡◌, ℕ, false, List, [], ◌∷◌, map, ⊤}
use Rattle.std.specs.Char.{to_ascii_lowercase}
use Rattle.dns_fields.specs.Fields.{Field, octets}
use Rattle.dns_fields_more.specs.Forms.{AreFieldsOf, is_last, lowered_row}
use Rattle.dns_fields_more.specs.declared.form.Form.{Form}
use Rattle.dns_fields_more.specs.declared.form.Form.TheVariants.{Name}

-- the octets are fields of the forms, one after another
pub record StandAs (forms : List Form) (whole : List ℕ) : Type 0 where
  pub row : List Field
  pub each : AreFieldsOf forms row
  pub written : whole ≡ octets row

-- only the last of the forms may have all octets that are left
abbrev pub EndWell : List Form → Type 0
EndWell [] = ⊤
EndWell (form ∷ []) = ⊤
EndWell (form ∷ (other ∷ forms)) = (is_last form ≡ false) × EndWell (other ∷ forms)

-- the octets are fields of the forms, and these are in canonical form there
pub record LowersTo (forms : List Form) (whole canonical : List ℕ) : Type 0 where
  pub row : List Field
  pub each : AreFieldsOf forms row
  pub written : whole ≡ octets row
  pub lowers : canonical ≡ octets (lowered_row forms row)

-- the octets of a field of the form in canonical form
abbrev pub form_lowered : Form → List ℕ → List ℕ
form_lowered Name octets = map to_ascii_lowercase octets
form_lowered form octets = octets
