-- Octets begin with one field of a form.
use Rattle.std.proofs.Common.{◌≡◌, ℕ, Bool, true, false, List, [], ◌++◌, ◌∙◌, length, drop, take, ap, sym, refl, append-nil}
use Rattle.std.proofs.Math.Seq.{take-append_seam, drop-append_seam}
use Rattle.dns_label.specs.Name.{IsName, wire}
use Rattle.dns_label.proofs.Spelling.{labels_at-reads}
use Rattle.dns_fields.specs.Fields.{Field, IsField, field_octets, kind_of, uncompressed, string, rest_text, rest16, rest64}
use Rattle.dns_fields.specs.OctetsForm.{StartsWithField}
use Rattle.dns_fields.specs.OctetsForm as kinds
use Rattle.dns_fields.proofs.FieldKinds.{of_uncompressed, of_string, of_rest_text, of_rest16, of_rest64}
use Rattle.dns_fields.proofs.ReadFields.{number8_fixed, number16_fixed, number32_fixed}
use Rattle.dns_canonical_form.proofs.OctetsForms.{name_decoded, starts_long}
use Rattle.dns_fields_more.specs.Forms.{is_last, kind_of_form}
use Rattle.dns_fields_more.specs.Values.{StandsIn}
use Rattle.dns_fields_more.specs.declared.form.Form.{Form}
use Rattle.dns_fields_more.specs.declared.form.Form.TheVariants.{Number8, Number16, Number32, Name, CasedName, String, RestText, Rest16, Rest64, Rtype as RtypeForm, Algorithm, CertificateType, Time, Salt, Hash, Types, Parameters, Location, Eui48, Eui64}

-- the fields have the same octets, and are the same
abbrev SameField : Field → Field → Type 0
SameField f g = IsField f → IsField g → field_octets f ≡ field_octets g → f ≡ g

name_one : (n m : List (List ℕ)) → IsName n → IsName m → wire n ≡ wire m → n ≡ m
name_one n m is is' same =
    sym (labels_at-reads (name_decoded (wire n) n [] is (sym (append-nil (wire n)))))
    ∙ labels_at-reads (name_decoded (wire n) m [] is' (same ∙ sym (append-nil (wire m))))

names_one : (f g : Field) → kind_of f ≡ kind_of_form Name → kind_of g ≡ kind_of_form Name → SameField f g
names_one f g is is' =
    of_uncompressed (λ f. SameField f g) f
    (λ n. of_uncompressed (λ g. SameField (uncompressed n) g) g (λ m ok ok' same. ap uncompressed (name_one n m ok ok' same)) is') is

strings_one : (f g : Field) → kind_of f ≡ kind_of_form String → kind_of g ≡ kind_of_form String → SameField f g
strings_one f g is is' =
    of_string (λ f. SameField f g) f
    (λ n. of_string (λ g. SameField (string n) g) g (λ m ok ok' same. ap string (let same = same in cc)) is') is

rests_one : (f g : Field) → kind_of f ≡ kind_of_form Rest16 → kind_of g ≡ kind_of_form Rest16 → SameField f g
rests_one f g is is' =
    of_rest16 (λ f. SameField f g) f (λ n. of_rest16 (λ g. SameField (rest16 n) g) g (λ m ok ok' same. ap rest16 same) is') is

pub octets_one : (form : Form) (f g : Field) → kind_of f ≡ kind_of_form form → kind_of g ≡ kind_of_form form → SameField f g
octets_one Number8 f g is is' = number8_fixed.one f g is is'
octets_one Number16 f g is is' = number16_fixed.one f g is is'
octets_one Number32 f g is is' = number32_fixed.one f g is is'
octets_one Name f g is is' = names_one f g is is'
octets_one CasedName f g is is' = names_one f g is is'
octets_one String f g is is' = strings_one f g is is'
octets_one RestText f g is is' =
    of_rest_text (λ f. SameField f g) f (λ n. of_rest_text (λ g. SameField (rest_text n) g) g (λ m ok ok' same. ap rest_text same) is') is
octets_one Rest16 f g is is' = rests_one f g is is'
octets_one Rest64 f g is is' =
    of_rest64 (λ f. SameField f g) f (λ n. of_rest64 (λ g. SameField (rest64 n) g) g (λ m ok ok' same. ap rest64 same) is') is
octets_one RtypeForm f g is is' = number16_fixed.one f g is is'
octets_one Algorithm f g is is' = number8_fixed.one f g is is'
octets_one CertificateType f g is is' = number16_fixed.one f g is is'
octets_one Time f g is is' = number32_fixed.one f g is is'
octets_one Salt f g is is' = strings_one f g is is'
octets_one Hash f g is is' = strings_one f g is is'
octets_one Types f g is is' = rests_one f g is is'
octets_one Parameters f g is is' = rests_one f g is is'
octets_one Location f g is is' = rests_one f g is is'
octets_one Eui48 f g is is' = rests_one f g is is'
octets_one Eui64 f g is is' = rests_one f g is is'

-- a form ends as its kind does
ends_alike : (form : Form) → kinds.is_last (kind_of_form form) ≡ is_last form
ends_alike Number8 = refl
ends_alike Number16 = refl
ends_alike Number32 = refl
ends_alike Name = refl
ends_alike CasedName = refl
ends_alike String = refl
ends_alike RestText = refl
ends_alike Rest16 = refl
ends_alike Rest64 = refl
ends_alike RtypeForm = refl
ends_alike Algorithm = refl
ends_alike CertificateType = refl
ends_alike Time = refl
ends_alike Salt = refl
ends_alike Hash = refl
ends_alike Types = refl
ends_alike Parameters = refl
ends_alike Location = refl
ends_alike Eui48 = refl
ends_alike Eui64 = refl

starts : {form : Form} {octets : List ℕ} {field : Field} {rest : List ℕ} → StandsIn form octets field rest
    → StartsWithField octets (kind_of_form form) field rest
starts stands = record { is_kind = stands.is.kind; is_field = stands.is.is_field; written = stands.written }

-- one field, and one rest behind it
pub sole : (form : Form) (octets : List ℕ) (f g : Field) (rest other : List ℕ) → StandsIn form octets f rest → StandsIn form octets g other
    → (f ≡ g) × (rest ≡ other)
sole form octets f g rest other is is' = by (is_last form) refl
  where
    same : field_octets f ≡ field_octets g → f ≡ g
    same = octets_one form f g is.is.kind is'.is.kind is.is.is_field is'.is.is_field

    by : (last : Bool) → last ≡ is_last form → (f ≡ g) × (rest ≡ other)
    by true last =
        let none = is.last (sym last) in
        let none' = is'.last (sym last) in (
          same (
              sym (append-nil (field_octets f)) ∙ (λ i. field_octets f ++ sym none i) ∙ sym is.written ∙ is'.written
              ∙ (λ i. field_octets g ++ none' i) ∙ append-nil (field_octets g)
              ),
          none ∙ sym none',
        )
    by false last =
        let ends : kinds.is_last (kind_of_form form) ≡ false = ends_alike form ∙ sym last in
        let long : length (field_octets f) ≡ length (field_octets g) = sym (starts_long (starts is) ends) ∙ starts_long (starts is') ends in
        let whole : field_octets f ++ rest ≡ field_octets g ++ other = sym is.written ∙ is'.written in (
          same (
              sym (take-append_seam (field_octets f) rest) ∙ (λ i. take (long i) (whole i)) ∙ take-append_seam (field_octets g) other
              ),
          sym (drop-append_seam (field_octets f) rest) ∙ (λ i. drop (long i) (whole i)) ∙ drop-append_seam (field_octets g) other,
        )
