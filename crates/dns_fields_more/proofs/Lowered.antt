-- Fields of forms in canonical form.
use Rattle.std.proofs.Common.{◌≡◌, ◌-◌, ◌∙◌, ◌++◌, ◌∷◌, [], ℕ, List, length, take, drop, ap, sym, refl, subst, arith, length-append}
use Rattle.std.specs.Prelude.{Some}
use Rattle.std.proofs.Math.Seq.{take-append_seam, drop-append_seam}
use Rattle.dns_fields.specs.Fields.{Field, field_octets, lowered, octets}
use Rattle.dns_fields.proofs.FieldKinds.{of_uncompressed}
use Rattle.dns_wire.proofs.Case.{low_wire}
use Rattle.dns_fields_more.specs.Forms.{AreFieldsOf, IsFieldOf, IsFurtherCanonical, forms_of, lowered_as, lowered_row}
use Rattle.dns_fields_more.specs.Rows.{EndWell, LowersTo, form_lowered}
use Rattle.dns_fields_more.specs.Values.{StandsIn}
use Rattle.dns_fields_more.specs.declared.form.Form.{Form}
use Rattle.dns_fields_more.specs.declared.form.Form.TheVariants.{Number8, Number16, Number32, Name, CasedName, String, RestText, Rest16, Rest64, Rtype as RtypeForm, Algorithm, CertificateType, Time, Salt, Hash, Types, Parameters, Location as LocationForm, Eui48, Eui64}
use Rattle.dns_fields_more.proofs.Rows.{last_of, none_left}
use Rattle.dns_fields_more.proofs.Sole.{sole}

-- how long the first field is
pub long_of : {form : Form} {whole rest : List ℕ} {found : Field} {len left : ℕ} → StandsIn form whole found rest → left ≡ length rest
    → len ≡ length whole - left → (field : Field) (other : List ℕ) → StandsIn form whole field other → len ≡ length (field_octets field)
long_of {form} {whole} {rest} {found} stands counted is field other also =
    let same = (sole form whole found field rest other stands also).0 in
    omega (
      arith,
      counted,
      is,
      ap (length {A = ℕ}) stands.written,
      length-append (field_octets found) rest,
      ap (λ f. length (field_octets f)) same,
    )

-- the octets of a field in canonical form
abbrev Lowers : Form → Field → Type 0
Lowers form field = IsFieldOf form field → field_octets (lowered_as form field) ≡ form_lowered form (field_octets field)

lowers : (form : Form) (field : Field) → Lowers form field
lowers Name field is =
    of_uncompressed (λ f. IsFieldOf Name f → field_octets (lowered f) ≡ form_lowered Name (field_octets f)) field
    (λ name is. sym (low_wire name is.is_field.labels)) is.kind is
lowers Number8 field is = refl
lowers Number16 field is = refl
lowers Number32 field is = refl
lowers CasedName field is = refl
lowers String field is = refl
lowers RestText field is = refl
lowers Rest16 field is = refl
lowers Rest64 field is = refl
lowers RtypeForm field is = refl
lowers Algorithm field is = refl
lowers CertificateType field is = refl
lowers Time field is = refl
lowers Salt field is = refl
lowers Hash field is = refl
lowers Types field is = refl
lowers Parameters field is = refl
lowers LocationForm field is = refl
lowers Eui48 field is = refl
lowers Eui64 field is = refl

-- a field in canonical form, and the others behind it
pub lowered_step : {form : Form} {others all : List Form} {whole back first behind : List ℕ} {count : ℕ} (front : List ℕ) → all ≡ form ∷ others → EndWell all
    → ((field : Field) (rest : List ℕ) → StandsIn form whole field rest → count ≡ length (field_octets field))
    → whole ≡ front ++ back → length front ≡ count → first ≡ form_lowered form front
    → ((canonical : List ℕ) → LowersTo others back canonical → behind ≡ canonical)
    → (canonical : List ℕ) → LowersTo all whole canonical → first ++ behind ≡ canonical
lowered_step {form} {others} {all} {whole} {back} {first} {behind} {count} front is well long cut size low_is behind_is canonical lowers_to =
    let well' : EndWell (form ∷ others) = subst EndWell is well in
    let its : LowersTo (form ∷ others) whole canonical = subst (λ l. LowersTo l whole canonical) is lowers_to in
    by its.row its.each its.written its.lowers well'
  where
    by : (row : List Field) → AreFieldsOf (form ∷ others) row → whole ≡ octets row → canonical ≡ octets (lowered_row (form ∷ others) row)
        → EndWell (form ∷ others) → first ++ behind ≡ canonical
    by [] each written is_lowered well = absurd each
    by (field ∷ row) each written is_lowered well =
        let stands : StandsIn form whole field (octets row) =
        record { is = each.0; written = written; last = last_of form others row well each.1 } in
        let same : length front ≡ length (field_octets field) = size ∙ long field (octets row) stands in
        let both : front ++ back ≡ field_octets field ++ octets row = sym cut ∙ written in
        let front_is : front ≡ field_octets field =
        sym (take-append_seam front back) ∙ (λ i. take (same i) (both i)) ∙ take-append_seam (field_octets field) (octets row) in
        let back_is : back ≡ octets row =
        sym (drop-append_seam front back) ∙ (λ i. drop (same i) (both i)) ∙ drop-append_seam (field_octets field) (octets row) in
        let first_is : first ≡ field_octets (lowered_as form field) =
        low_is ∙ ap (form_lowered form) front_is ∙ sym (lowers form field each.0) in
        let rest_is : behind ≡ octets (lowered_row others row) =
        behind_is (octets (lowered_row others row)) (record { row = row; each = each.1; written = back_is; lowers = refl }) in
        (λ i. first_is i ++ rest_is i) ∙ sym is_lowered

-- no fields are no octets
pub lowered_none : {forms : List Form} {whole : List ℕ} → length forms ≡ 0 → (canonical : List ℕ) → LowersTo forms whole canonical → whole ≡ canonical
lowered_none {forms} {whole} none canonical lowers_to =
    let its : LowersTo [] whole canonical = subst (λ l. LowersTo l whole canonical) (none_left forms none) lowers_to in
    by its.row its.each its.written its.lowers
  where
    by : (row : List Field) → AreFieldsOf [] row → whole ≡ octets row → canonical ≡ octets (lowered_row [] row) → whole ≡ canonical
    by row each written is_lowered = written ∙ sym is_lowered

pub further_lowered : {rtype : ℕ} {forms : List Form} {whole canonical : List ℕ} → forms_of rtype ≡ Some forms → IsFurtherCanonical rtype whole canonical
    → LowersTo forms whole canonical
further_lowered {rtype} {forms} {whole} {canonical} its is =
    let same : is.forms ≡ forms = (let e : Some is.forms ≡ Some forms = sym is.its ∙ its in cc) in
    let mine : is.is_row.forms ≡ is.forms = (let e : Some is.is_row.forms ≡ Some is.forms = sym is.is_row.its ∙ is.its in cc) in
    subst (λ l. LowersTo l whole canonical) same
    (record {
      row = is.row;
      each = subst (λ l. AreFieldsOf l is.row) mine is.is_row.each;
      written = is.written;
      lowers = is.lowers;
    })
