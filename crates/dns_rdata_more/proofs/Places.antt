-- The fields of data by their places.
use Rattle.std.proofs.Common.{◌≡◌, ◌++◌, ◌-◌, ℕ, suc, List, ◌∷◌, ◌∙◌, ap, sym, refl, subst, arith}
use Rattle.std.specs.Prelude.{Some, None, Option, slice_get, option_and_then, option_map, length, ◌<◌, ◌^◌}
use Rattle.dns_fields.specs.Fields.{Field, kind_of, field_octets, octets, rest16}
use Rattle.dns_fields.specs.Fields as kinds
use Rattle.dns_fields_more.specs.Forms.{IsFurtherData, forms_of, kind_of_form}
use Rattle.dns_fields_more.specs.Rows.{EndWell, StandAs}
use Rattle.dns_fields_more.specs.Values.{StandsIn, rest_field}
use Rattle.dns_fields_more.specs.declared.form.Form.{Form}
use Rattle.dns_fields_more.specs.declared.form.Form.TheVariants.{Number8, Number16, Number32, Name, CasedName, String, RestText, Rest16, Rest64, Rtype as RtypeForm, Algorithm, CertificateType, Time, Salt, Hash, Types, Parameters, Location, Eui48, Eui64}
use Rattle.dns_fields_more.proofs.Rows.{behind, others_well}
use Rattle.dns_rdata_more.specs.FurtherData.{HasField, IsFieldAt, form_at, kind_at}

-- the fields behind the first one
pub left_well : {forms others : List Form} {form : Form} → forms ≡ form ∷ others → EndWell forms → EndWell others
left_well {forms} {others} {form} is well = others_well form others (subst EndWell is well)

pub left_stand : {forms others : List Form} {form : Form} {whole rest : List ℕ} {field : Field} → forms ≡ form ∷ others → EndWell forms
    → StandsIn form whole field rest → StandAs forms whole → StandAs others rest
left_stand {forms} {others} {form} {whole} {rest} {field} is well stands row =
    behind form others whole rest field (subst EndWell is well) stands (subst (λ l. StandAs l whole) is row)

-- the field at the first place
pub field_first : {forms others : List Form} {form : Form} {whole rest : List ℕ} {place : ℕ} (F : Form → Field) → place ≡ 0 → forms ≡ form ∷ others
    → EndWell forms → StandsIn form whole (F form) rest → StandAs forms whole
    → (its : Form) → slice_get forms place ≡ Some its → HasField forms whole place (F its)
field_first {forms} {others} {form} {whole} {rest} {place} F first is well stands row its there =
    let left = left_stand is well stands row in
    let same : form ≡ its = (let e : Some form ≡ Some its = sym (λ i. slice_get (is i) (first i)) ∙ there in cc) in
    subst (λ (f : Form). HasField forms whole place (F f)) same
    (subst (λ (n : ℕ). HasField forms whole n (F form)) (sym first)
    (subst (λ (l : List Form). HasField l whole 0 (F form)) (sym is)
    (record {
      row = F form ∷ left.row;
      each = (stands.is, left.each);
      written = stands.written ∙ ap (λ l. field_octets (F form) ++ l) left.written;
      there = refl;
    })))

-- the field at a later place
pub field_later : {forms others : List Form} {form : Form} {whole rest : List ℕ} {first : Field} {place : ℕ} (next : ℕ) (F : Form → Field)
    → place ≡ suc next → forms ≡ form ∷ others → StandsIn form whole first rest
    → ((its : Form) → slice_get others next ≡ Some its → HasField others rest next (F its))
    → (its : Form) → slice_get forms place ≡ Some its → HasField forms whole place (F its)
field_later {forms} {others} {form} {whole} {rest} {first} {place} next F later is stands found its there =
    let left = found its (sym (λ i. slice_get (is i) (later i)) ∙ there) in
    subst (λ (n : ℕ). HasField forms whole n (F its)) (sym later)
    (subst (λ (l : List Form). HasField l whole (suc next) (F its)) (sym is)
    (record {
      row = first ∷ left.row;
      each = (stands.is, left.each);
      written = stands.written ∙ ap (λ l. field_octets first ++ l) left.written;
      there = left.there;
    }))

pub kind_later : {forms others : List Form} {form : Form} {place : ℕ} (next : ℕ) (F : Form → Field) → place ≡ suc next → forms ≡ form ∷ others
    → ((its : Form) → slice_get others next ≡ Some its → kind_of (F its) ≡ kind_of_form its)
    → (its : Form) → slice_get forms place ≡ Some its → kind_of (F its) ≡ kind_of_form its
kind_later next F later is found its there = found its (sym (λ i. slice_get (is i) (later i)) ∙ there)

pub place_left : {forms others : List Form} {form : Form} {place : ℕ} → forms ≡ form ∷ others → place < length forms → (place ≡ 0 → ⊥)
    → place - 1 < length others
place_left is within later = omega (arith, ap (length {A = Form}) is)

-- the form at a place of the type is that of its forms
pub form_there : (rtype place : ℕ) (forms : List Form) → forms_of rtype ≡ Some forms → form_at rtype place ≡ slice_get forms place
form_there rtype place forms its = λ i. option_and_then (λ (forms : List Form). slice_get forms place) (its i)

-- a field of the octets is one of the data
pub field_whole : (rtype : ℕ) (whole : List ℕ) (forms : List Form) (place : ℕ) (F : Form → Field) → forms_of rtype ≡ Some forms → IsFurtherData rtype whole
    → ((its : Form) → slice_get forms place ≡ Some its → HasField forms whole place (F its))
    → (its : Form) → form_at rtype place ≡ Some its → IsFieldAt rtype whole place (F its)
field_whole rtype whole forms place F of_type is found its there =
    let field = found its (sym (form_there rtype place forms of_type) ∙ there) in
    let same : octets is.row ≡ octets field.row = sym is.written ∙ field.written in
    record {
      row = field.row;
      is_row = record { forms = forms; its = of_type; each = field.each; short = subst (λ (l : List ℕ). length l < 2 ^ 16) same is.is_row.short };
      written = field.written;
      there = field.there;
    }

-- octets up to the end whose kind is base 16
pub rest_known : (form : Form) (text : List ℕ) → kind_of (rest_field form text) ≡ kinds.Rest16 → rest_field form text ≡ rest16 text
rest_known RestText text is = absurd (cc)
rest_known Rest64 text is = absurd (cc)
rest_known Number8 text is = refl
rest_known Number16 text is = refl
rest_known Number32 text is = refl
rest_known Name text is = refl
rest_known CasedName text is = refl
rest_known String text is = refl
rest_known Rest16 text is = refl
rest_known RtypeForm text is = refl
rest_known Algorithm text is = refl
rest_known CertificateType text is = refl
rest_known Time text is = refl
rest_known Salt text is = refl
rest_known Hash text is = refl
rest_known Types text is = refl
rest_known Parameters text is = refl
rest_known Location text is = refl
rest_known Eui48 text is = refl
rest_known Eui64 text is = refl

-- the field of that kind at a place
pub rest16_there : {n rtype place : ℕ} {given whole text : List ℕ} → n ≡ rtype → given ≡ whole → kind_at rtype place ≡ Some kinds.Rest16
    → ((form : Form) → form_at n place ≡ Some form → IsFieldAt n given place (rest_field form text))
    → ((form : Form) → form_at n place ≡ Some form → kind_of (rest_field form text) ≡ kind_of_form form) → IsFieldAt rtype whole place (rest16 text)
rest16_there {n} {rtype} {place} {given} {whole} {text} same_type same kind at kinds_at = by (form_at rtype place) refl
  where
    by : (found : Option Form) → form_at rtype place ≡ found → IsFieldAt rtype whole place (rest16 text)
    by None none = absurd (let e : None ≡ Some kinds.Rest16 = sym (ap (option_map kind_of_form) none) ∙ kind in cc)
    by (Some form) is =
        let its : form_at n place ≡ Some form = ap (λ (m : ℕ). form_at m place) same_type ∙ is in
        let e : Some (kind_of_form form) ≡ Some kinds.Rest16 = sym (ap (option_map kind_of_form) is) ∙ kind in
        let known : rest_field form text ≡ rest16 text = rest_known form text (kinds_at form its ∙ (cc)) in
        subst (IsFieldAt rtype whole place) known
        (subst (λ (l : List ℕ). IsFieldAt rtype l place (rest_field form text)) same
        (subst (λ (m : ℕ). IsFieldAt m given place (rest_field form text)) same_type (at form its)))
