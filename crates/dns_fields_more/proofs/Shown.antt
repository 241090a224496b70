-- Fields that are printed.
use Rattle.std.proofs.Common.{◌≡◌, ◌≤◌, ◌∙◌, ◌++◌, ◌∷◌, [], ℕ, List, length, refl, subst, sym, ap, arith}
use Rattle.std.specs.Prelude.{Some, Result, Ok, Err, OnOk}
use Rattle.dns_text.specs.Document.{Piece}
use Rattle.dns_text.specs.Document.Piece.{Open, Close}
use Rattle.dns_text.proofs.Writings.{adds_append}
use Rattle.dns_text.specs.Writing.{Adds}
use Rattle.dns_fields.specs.Fields as kinds
use Rattle.dns_fields.specs.Fields.{Field, field_octets, kind_of, number8, number16, number32, uncompressed, string}
use Rattle.dns_fields.specs.Shown.{field_pieces}
use Rattle.dns_fields_more.specs.Forms.{forms_of, kind_of_form}
use Rattle.dns_fields_more.specs.Values.{StandsIn, field_of, rest_field}
use Rattle.dns_fields_more.specs.declared.value.Value.{Value}
use Rattle.dns_fields_more.specs.Text.{PrintsForm, ShowsFields, ShowsForm, ShowsFurther}
use Rattle.dns_fields_more.proofs.Rows.{none_left}
use Rattle.dns_fields_more.specs.declared.form.Form.{Form}
use Rattle.dns_fields_more.specs.declared.form.Form.TheVariants.{Number8, Number16, Number32, Name, CasedName, String, RestText, Rest16, Rest64, Rtype as RtypeForm, Algorithm, CertificateType, Time, Salt, Hash, Types, Parameters, Location as LocationForm, Eui48, Eui64}

pub shown : {T E F : Type 0} (writes : F → List Piece → F → Type 0) (form : Form) (field : Field) (pieces : List Piece) (old new : F)
    → PrintsForm form field pieces → (result : Result T E) → OnOk result (Adds writes old pieces new)
    → OnOk result (ShowsForm writes form field old new)
shown writes form field pieces old new prints (Ok value) adds = record { pieces = pieces; prints = prints; adds = adds }
shown writes form field pieces old new prints (Err error) adds = tt

pub plain8 : (form : Form) (n : ℕ) → kind_of_form form ≡ kinds.Number8
    → PrintsForm form (number8 n) (field_pieces (number8 n))
plain8 Number8 n is = refl
plain8 Number16 n is = absurd (cc)
plain8 Number32 n is = absurd (cc)
plain8 Name n is = absurd (cc)
plain8 CasedName n is = absurd (cc)
plain8 String n is = absurd (cc)
plain8 RestText n is = absurd (cc)
plain8 Rest16 n is = absurd (cc)
plain8 Rest64 n is = absurd (cc)
plain8 RtypeForm n is = absurd (cc)
plain8 Algorithm n is = refl
plain8 CertificateType n is = absurd (cc)
plain8 Time n is = absurd (cc)
plain8 Salt n is = absurd (cc)
plain8 Hash n is = absurd (cc)
plain8 Types n is = absurd (cc)
plain8 Parameters n is = absurd (cc)
plain8 LocationForm n is = absurd (cc)
plain8 Eui48 n is = absurd (cc)
plain8 Eui64 n is = absurd (cc)

pub plain16 : (form : Form) (n : ℕ) → kind_of_form form ≡ kinds.Number16 → (form ≡ RtypeForm → ⊥)
    → PrintsForm form (number16 n) (field_pieces (number16 n))
plain16 Number8 n is not0 = absurd (cc)
plain16 Number16 n is not0 = refl
plain16 Number32 n is not0 = absurd (cc)
plain16 Name n is not0 = absurd (cc)
plain16 CasedName n is not0 = absurd (cc)
plain16 String n is not0 = absurd (cc)
plain16 RestText n is not0 = absurd (cc)
plain16 Rest16 n is not0 = absurd (cc)
plain16 Rest64 n is not0 = absurd (cc)
plain16 RtypeForm n is not0 = absurd (not0 refl)
plain16 Algorithm n is not0 = absurd (cc)
plain16 CertificateType n is not0 = refl
plain16 Time n is not0 = absurd (cc)
plain16 Salt n is not0 = absurd (cc)
plain16 Hash n is not0 = absurd (cc)
plain16 Types n is not0 = absurd (cc)
plain16 Parameters n is not0 = absurd (cc)
plain16 LocationForm n is not0 = absurd (cc)
plain16 Eui48 n is not0 = absurd (cc)
plain16 Eui64 n is not0 = absurd (cc)

pub plain32 : (form : Form) (n : ℕ) → kind_of_form form ≡ kinds.Number32 → (form ≡ Time → ⊥)
    → PrintsForm form (number32 n) (field_pieces (number32 n))
plain32 Number8 n is not0 = absurd (cc)
plain32 Number16 n is not0 = absurd (cc)
plain32 Number32 n is not0 = refl
plain32 Name n is not0 = absurd (cc)
plain32 CasedName n is not0 = absurd (cc)
plain32 String n is not0 = absurd (cc)
plain32 RestText n is not0 = absurd (cc)
plain32 Rest16 n is not0 = absurd (cc)
plain32 Rest64 n is not0 = absurd (cc)
plain32 RtypeForm n is not0 = absurd (cc)
plain32 Algorithm n is not0 = absurd (cc)
plain32 CertificateType n is not0 = absurd (cc)
plain32 Time n is not0 = absurd (not0 refl)
plain32 Salt n is not0 = absurd (cc)
plain32 Hash n is not0 = absurd (cc)
plain32 Types n is not0 = absurd (cc)
plain32 Parameters n is not0 = absurd (cc)
plain32 LocationForm n is not0 = absurd (cc)
plain32 Eui48 n is not0 = absurd (cc)
plain32 Eui64 n is not0 = absurd (cc)

pub plain_name : (form : Form) (name : List (List ℕ)) → kind_of_form form ≡ kinds.Uncompressed
    → PrintsForm form (uncompressed name) (field_pieces (uncompressed name))
plain_name Number8 name is = absurd (cc)
plain_name Number16 name is = absurd (cc)
plain_name Number32 name is = absurd (cc)
plain_name Name name is = refl
plain_name CasedName name is = refl
plain_name String name is = absurd (cc)
plain_name RestText name is = absurd (cc)
plain_name Rest16 name is = absurd (cc)
plain_name Rest64 name is = absurd (cc)
plain_name RtypeForm name is = absurd (cc)
plain_name Algorithm name is = absurd (cc)
plain_name CertificateType name is = absurd (cc)
plain_name Time name is = absurd (cc)
plain_name Salt name is = absurd (cc)
plain_name Hash name is = absurd (cc)
plain_name Types name is = absurd (cc)
plain_name Parameters name is = absurd (cc)
plain_name LocationForm name is = absurd (cc)
plain_name Eui48 name is = absurd (cc)
plain_name Eui64 name is = absurd (cc)

pub plain_string : (form : Form) (octets : List ℕ) → kind_of_form form ≡ kinds.String → (form ≡ Salt → ⊥) → (form ≡ Hash → ⊥)
    → PrintsForm form (string octets) (field_pieces (string octets))
plain_string Number8 octets is not0 not1 = absurd (cc)
plain_string Number16 octets is not0 not1 = absurd (cc)
plain_string Number32 octets is not0 not1 = absurd (cc)
plain_string Name octets is not0 not1 = absurd (cc)
plain_string CasedName octets is not0 not1 = absurd (cc)
plain_string String octets is not0 not1 = refl
plain_string RestText octets is not0 not1 = absurd (cc)
plain_string Rest16 octets is not0 not1 = absurd (cc)
plain_string Rest64 octets is not0 not1 = absurd (cc)
plain_string RtypeForm octets is not0 not1 = absurd (cc)
plain_string Algorithm octets is not0 not1 = absurd (cc)
plain_string CertificateType octets is not0 not1 = absurd (cc)
plain_string Time octets is not0 not1 = absurd (cc)
plain_string Salt octets is not0 not1 = absurd (not0 refl)
plain_string Hash octets is not0 not1 = absurd (not1 refl)
plain_string Types octets is not0 not1 = absurd (cc)
plain_string Parameters octets is not0 not1 = absurd (cc)
plain_string LocationForm octets is not0 not1 = absurd (cc)
plain_string Eui48 octets is not0 not1 = absurd (cc)
plain_string Eui64 octets is not0 not1 = absurd (cc)

pub plain_rest : (form : Form) (octets : List ℕ) → kind_of (rest_field form octets) ≡ kind_of_form form → (form ≡ Types → ⊥) → (form ≡ Parameters → ⊥) → (form ≡ LocationForm → ⊥) → (form ≡ Eui48 → ⊥) → (form ≡ Eui64 → ⊥) → (form ≡ RestText → ⊥) → (form ≡ Rest64 → ⊥)
    → PrintsForm form (rest_field form octets) (field_pieces (kinds.rest16 octets))
plain_rest Number8 octets kind not0 not1 not2 not3 not4 not5 not6 = absurd (cc)
plain_rest Number16 octets kind not0 not1 not2 not3 not4 not5 not6 = absurd (cc)
plain_rest Number32 octets kind not0 not1 not2 not3 not4 not5 not6 = absurd (cc)
plain_rest Name octets kind not0 not1 not2 not3 not4 not5 not6 = absurd (cc)
plain_rest CasedName octets kind not0 not1 not2 not3 not4 not5 not6 = absurd (cc)
plain_rest String octets kind not0 not1 not2 not3 not4 not5 not6 = absurd (cc)
plain_rest RestText octets kind not0 not1 not2 not3 not4 not5 not6 = absurd (not5 refl)
plain_rest Rest16 octets kind not0 not1 not2 not3 not4 not5 not6 = refl
plain_rest Rest64 octets kind not0 not1 not2 not3 not4 not5 not6 = absurd (not6 refl)
plain_rest RtypeForm octets kind not0 not1 not2 not3 not4 not5 not6 = absurd (cc)
plain_rest Algorithm octets kind not0 not1 not2 not3 not4 not5 not6 = absurd (cc)
plain_rest CertificateType octets kind not0 not1 not2 not3 not4 not5 not6 = absurd (cc)
plain_rest Time octets kind not0 not1 not2 not3 not4 not5 not6 = absurd (cc)
plain_rest Salt octets kind not0 not1 not2 not3 not4 not5 not6 = absurd (cc)
plain_rest Hash octets kind not0 not1 not2 not3 not4 not5 not6 = absurd (cc)
plain_rest Types octets kind not0 not1 not2 not3 not4 not5 not6 = absurd (not0 refl)
plain_rest Parameters octets kind not0 not1 not2 not3 not4 not5 not6 = absurd (not1 refl)
plain_rest LocationForm octets kind not0 not1 not2 not3 not4 not5 not6 = absurd (not2 refl)
plain_rest Eui48 octets kind not0 not1 not2 not3 not4 not5 not6 = absurd (not3 refl)
plain_rest Eui64 octets kind not0 not1 not2 not3 not4 not5 not6 = absurd (not4 refl)

-- a value, which is known by now
pub value_shown : {T E F : Type 0} {value v : Value} (writes : F → List Piece → F → Type 0) (pieces : List Piece) (form : Form) (old new : F)
    → value ≡ v → kind_of (field_of form value) ≡ kind_of_form form
    → (kind_of_form form ≡ kind_of (field_of form v) → PrintsForm form (field_of form v) pieces) → (result : Result T E)
    → OnOk result (Adds writes old pieces new) → OnOk result (ShowsForm writes form (field_of form value) old new)
value_shown {value = value} {v} writes pieces form old new is kind prints result adds =
    subst (λ x. OnOk result (ShowsForm writes form (field_of form x) old new)) (sym is)
    (shown writes form (field_of form v) pieces old new (prints (sym (subst (λ x. kind_of (field_of form x) ≡ kind_of_form form) is kind))) result adds)

-- a form that is known by now
pub at_form : {form f : Form} (field : Field) (pieces : List Piece) → form ≡ f → PrintsForm f field pieces → PrintsForm form field pieces
at_form field pieces is prints = subst (λ x. PrintsForm x field pieces) (sym is) prints

pub rest_shown : {T E F : Type 0} {form f : Form} (writes : F → List Piece → F → Type 0) (octets : List ℕ) (pieces : List Piece) (old new : F)
    → form ≡ f → PrintsForm f (rest_field f octets) pieces → (result : Result T E) → OnOk result (Adds writes old pieces new)
    → OnOk result (ShowsForm writes form (rest_field form octets) old new)
rest_shown {f = f} writes octets pieces old new is prints result adds =
    subst (λ x. OnOk result (ShowsForm writes x (rest_field x octets) old new)) (sym is) (shown writes f (rest_field f octets) pieces old new prints result adds)

-- no fields are left, and none is printed
pub fields_ended : {F : Type 0} {forms : List Form} {whole : List ℕ} {count : ℕ} (writes : F → List Piece → F → Type 0) (a : F) → length forms ≡ 0
    → count ≡ length whole → count ≡ 0 → ShowsFields writes forms whole a a
fields_ended {forms = forms} {whole} writes a none counted ended =
    subst (λ l. ShowsFields writes l whole a a) (sym (none_left forms none))
    (record {
      row = [];
      each = tt;
      written = none_left whole (sym counted ∙ ended);
      pieces = [];
      prints = refl;
      adds = λ start front so_far. so_far;
    })

-- a field is printed, and then the others
pub fields_step : {T E F : Type 0} {form : Form} {others all : List Form} {whole rest : List ℕ} {field : Field} (writes : F → List Piece → F → Type 0)
    (a b c : F) → all ≡ form ∷ others → StandsIn form whole field rest → ShowsForm writes form field a b → (result : Result T E)
    → OnOk result (ShowsFields writes others rest b c) → OnOk result (ShowsFields writes all whole a c)
fields_step {whole = whole} {field = field} writes a b c is stands first (Ok value) behind =
    subst (λ l. ShowsFields writes l whole a c) (sym is)
    (record {
      row = field ∷ behind.row;
      each = (stands.is, behind.each);
      written = stands.written ∙ ap (λ l. field_octets field ++ l) behind.written;
      pieces = first.pieces ++ behind.pieces;
      prints = (first.pieces, behind.pieces, first.prints, behind.prints, refl);
      adds = adds_append writes a b c first.pieces behind.pieces first.adds behind.adds;
    })
fields_step writes a b c is stands first (Err error) behind = tt

-- the fields of a further type are printed between the marks of a block
pub further_shown : {T E F : Type 0} {forms : List Form} {whole : List ℕ} (rtype : ℕ) (writes : F → List Piece → F → Type 0) (a b c d : F)
    → forms_of rtype ≡ Some forms → length whole ≤ 65535 → Adds writes a (Open ∷ []) b → ShowsFields writes forms whole b c → (result : Result T E)
    → OnOk result (Adds writes c (Close ∷ []) d) → OnOk result (ShowsFurther writes rtype whole a d)
further_shown {forms = forms} {whole} rtype writes a b c d its short opens fields (Ok value) closes = record {
  row = fields.row;
  is_row = record {
    forms = forms;
    its = its;
    each = fields.each;
    short = omega (arith, short, ap (length {A = ℕ}) fields.written);
  };
  written = fields.written;
  forms = forms;
  its = its;
  pieces = fields.pieces;
  prints = fields.prints;
  adds = adds_append writes a b d (Open ∷ []) (fields.pieces ++ Close ∷ []) opens (adds_append writes b c d fields.pieces (Close ∷ []) fields.adds closes);
}
further_shown rtype writes a b c d its short opens fields (Err error) closes = tt
