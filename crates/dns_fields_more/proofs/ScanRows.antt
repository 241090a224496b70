-- A row's tokens, taken apart and put together form by form.
use Rattle.std.proofs.Common.{◌≡◌, ℕ, List, [], ◌∷◌, ◌++◌, ◌∙◌, drop, refl, sym, ap, subst, append_assoc, append-nil}
use Rattle.dns_scan.specs.Token.{Token, SameNames}
use Rattle.dns_scan.proofs.SymbolsRead.{same_names_join}
use Rattle.dns_fields.specs.Fields.{Field, field_octets, octets, kind_of}
use Rattle.dns_fields.specs.Scanned.{ScansField}
use Rattle.dns_fields.proofs.FieldKinds.{of_number8, of_number16, of_number32, of_uncompressed, of_string, of_rest_text, of_rest16, of_rest64}
use Rattle.dns_fields.proofs.ScanParts as parts
use Rattle.dns_field_texts.specs.Appended.{GoesOn}
use Rattle.dns_field_texts.proofs.AppendedBase64.{goes_join, goes_none}
use Rattle.dns_fields_more.specs.Forms.{kind_of_form}
use Rattle.dns_fields_more.specs.Text.{AppendsForm, AppendsForms, NoFormScans, NoFormsScan, ScansForm, ScansForms, ScansFurther, SpellsForm}
use Rattle.dns_fields_more.specs.declared.form.Form.{Form}
use Rattle.dns_fields_more.specs.declared.form.Form.TheVariants.{Number8, Number16, Number32, Name, CasedName, String, RestText, Rest16, Rest64, Rtype as RtypeForm, Algorithm, CertificateType, Time, Salt, Hash, Types, Parameters, Location, Eui48, Eui64}

-- what is left after a field of the form
abbrev left_of : Form → List Token → List Token
left_of Rest16 tokens = []
left_of Rest64 tokens = []
left_of Types tokens = []
left_of Parameters tokens = []
left_of Location tokens = []
left_of form tokens = drop 1 tokens

taken : {tokens left : List Token} {token : Token} → tokens ≡ token ∷ left → left ≡ drop 1 tokens
taken is = sym (ap (drop {A = Token} 1) is)

module _ (names : List ℕ → List (List ℕ) → Type 0) (tokens left : List Token) where
  abbrev Leaves : Form → Field → Type 0
  Leaves form field = SpellsForm names form field tokens left → left ≡ left_of form tokens

  plain : (field : Field) (form : Form) → kind_of field ≡ kind_of_form form → parts.left_behind (kind_of_form form) tokens ≡ left_of form tokens
      → ScansField names field tokens left → left ≡ left_of form tokens
  plain field form kind same scans =
      parts.leaves names field tokens left scans ∙ ap (λ k. parts.left_behind k tokens) kind ∙ same

  leaves_by : (form : Form) (field : Field) → kind_of field ≡ kind_of_form form → Leaves form field
  leaves_by Number8 field kind = plain field Number8 kind refl
  leaves_by Number16 field kind = plain field Number16 kind refl
  leaves_by Number32 field kind = plain field Number32 kind refl
  leaves_by Name field kind = plain field Name kind refl
  leaves_by CasedName field kind = plain field CasedName kind refl
  leaves_by String field kind = plain field String kind refl
  leaves_by RestText field kind = plain field RestText kind refl
  leaves_by Rest16 field kind = of_rest16 (Leaves Rest16) field (λ o s. s.0.3) kind
  leaves_by Rest64 field kind = of_rest64 (Leaves Rest64) field (λ o s. s.0.3) kind
  leaves_by RtypeForm field kind = of_number16 (Leaves RtypeForm) field (λ n s. taken s.takes.is) kind
  leaves_by Algorithm field kind = of_number8 (Leaves Algorithm) field (λ n s. taken s.takes.is) kind
  leaves_by CertificateType field kind = of_number16 (Leaves CertificateType) field (λ n s. taken s.takes.is) kind
  leaves_by Time field kind = of_number32 (Leaves Time) field (λ n s. taken s.takes.is) kind
  leaves_by Salt field kind = of_string (Leaves Salt) field (λ o s. taken s.1.is) kind
  leaves_by Hash field kind = of_string (Leaves Hash) field (λ o s. taken s.1.is) kind
  leaves_by Types field kind = of_rest16 (Leaves Types) field (λ o s. s.none) kind
  leaves_by Parameters field kind = of_rest16 (Leaves Parameters) field (λ o s. s.3) kind
  leaves_by Location field kind = of_rest16 (Leaves Location) field (λ o s. s.3) kind
  leaves_by Eui48 field kind = of_rest16 (Leaves Eui48) field (λ o s. taken s.1.is) kind
  leaves_by Eui64 field kind = of_rest16 (Leaves Eui64) field (λ o s. taken s.1.is) kind

pub leaves : {names : List ℕ → List (List ℕ) → Type 0} {form : Form} {field : Field} {tokens left : List Token} → ScansForm names form field tokens left
    → left ≡ left_of form tokens
leaves {names} {form} {field} {tokens} {left} scans = leaves_by names tokens left form field scans.is.kind scans.spelled

-- what stands for a name at one place, if it stands for it at another
module _ (old new : List ℕ → List (List ℕ) → Type 0) (into : (text : List ℕ) (name : List (List ℕ)) → old text name → new text name)
    (tokens left : List Token) where
  abbrev Goes : Form → Field → Type 0
  Goes form field = SpellsForm old form field tokens left → SpellsForm new form field tokens left

  there_by : (form : Form) (field : Field) → kind_of field ≡ kind_of_form form → Goes form field
  there_by RtypeForm field kind = of_number16 (Goes RtypeForm) field (λ n s. s) kind
  there_by Algorithm field kind = of_number8 (Goes Algorithm) field (λ n s. s) kind
  there_by CertificateType field kind = of_number16 (Goes CertificateType) field (λ n s. s) kind
  there_by Time field kind = of_number32 (Goes Time) field (λ n s. s) kind
  there_by Salt field kind = of_string (Goes Salt) field (λ o s. s) kind
  there_by Hash field kind = of_string (Goes Hash) field (λ o s. s) kind
  there_by Types field kind = of_rest16 (Goes Types) field (λ o s. s) kind
  there_by Parameters field kind = of_rest16 (Goes Parameters) field (λ o s. s) kind
  there_by Location field kind = of_rest16 (Goes Location) field (λ o s. s) kind
  there_by Eui48 field kind = of_rest16 (Goes Eui48) field (λ o s. s) kind
  there_by Eui64 field kind = of_rest16 (Goes Eui64) field (λ o s. s) kind
  there_by Number8 field kind = of_number8 (Goes Number8) field (λ n s. s) kind
  there_by Number16 field kind = of_number16 (Goes Number16) field (λ n s. s) kind
  there_by Number32 field kind = of_number32 (Goes Number32) field (λ n s. s) kind
  there_by Name field kind = of_uncompressed (Goes Name) field (λ name s. (s.0, s.1, into s.0 name s.2)) kind
  there_by CasedName field kind = of_uncompressed (Goes CasedName) field (λ name s. (s.0, s.1, into s.0 name s.2)) kind
  there_by String field kind = of_string (Goes String) field (λ o s. s) kind
  there_by RestText field kind = of_rest_text (Goes RestText) field (λ o s. s) kind
  there_by Rest16 field kind = of_rest16 (Goes Rest16) field (λ o s. s) kind
  there_by Rest64 field kind = of_rest64 (Goes Rest64) field (λ o s. s) kind

form_there : {old new : List ℕ → List (List ℕ) → Type 0} → SameNames old new → {form : Form} {field : Field} {tokens left : List Token}
    → ScansForm new form field tokens left → ScansForm old form field tokens left
form_there {old} {new} same {form} {field} {tokens} {left} scans =
    record { is = scans.is; spelled = there_by new old (λ text name. (same text name).1) tokens left form field scans.is.kind scans.spelled }

forms_there : {old new : List ℕ → List (List ℕ) → Type 0} → SameNames old new → (forms : List Form) (row : List Field) (tokens left : List Token)
    → ScansForms new forms row tokens left → ScansForms old forms row tokens left
forms_there same [] [] tokens left scans = scans
forms_there same [] (field ∷ row) tokens left scans = scans
forms_there same (form ∷ forms) [] tokens left scans = scans
forms_there same (form ∷ forms) (field ∷ row) tokens left scans =
    (scans.0, form_there same scans.1, forms_there same forms row scans.0 left scans.2)

pub swap : {old new : List ℕ → List (List ℕ) → Type 0} → SameNames old new → SameNames new old
swap same text name = ((same text name).1, (same text name).0)

-- a row under other names for the same texts
pub further_there : {old new : List ℕ → List (List ℕ) → Type 0} → SameNames old new → {rtype : ℕ} {row : List Field} {tokens left : List Token}
    → ScansFurther new rtype row tokens left → ScansFurther old rtype row tokens left
further_there same {row = row} {tokens} {left} scans =
    record { forms = scans.forms; its = scans.its; scans = forms_there same scans.forms row tokens left scans.scans; short = scans.short }

-- a field, and the others after it
pub forms_appended : {old_names new_names : List ℕ → List (List ℕ) → Type 0} {form : Form} {forms all : List Form} {tokens behind left : List Token}
    {old middle new : List ℕ} → all ≡ form ∷ forms → SameNames old_names new_names → AppendsForm old_names form tokens behind old middle
    → AppendsForms new_names forms behind left middle new → AppendsForms old_names all tokens left old new
forms_appended {old_names} {form = form} {forms} {all} {tokens} {behind} {left} {old} {middle} {new} is same first others =
    subst (λ l. AppendsForms old_names l tokens left old new) (sym is)
    (record {
      row = first.field ∷ others.row;
      scans = (behind, first.scans, forms_there same forms others.row behind left others.scans);
      behind = others.behind ∙ ap (λ l. l ++ octets others.row) first.behind ∙ append_assoc old (field_octets first.field) (octets others.row);
    })

pub none_appended : {names : List ℕ → List (List ℕ) → Type 0} {all : List Form} (tokens : List Token) (old : List ℕ) → all ≡ []
    → AppendsForms names all tokens tokens old old
none_appended {names} tokens old is =
    subst (λ l. AppendsForms names l tokens tokens old old) (sym is) (record { row = []; scans = refl; behind = sym (append-nil old) })

pub no_first : {names : List ℕ → List (List ℕ) → Type 0} {form : Form} {forms all : List Form} {tokens : List Token} → all ≡ form ∷ forms
    → NoFormScans names form tokens → NoFormsScan names all tokens
no_first {names} {form} {forms} {all} {tokens} is none = subst (λ l. NoFormsScan names l tokens) (sym is) by
  where
    by : NoFormsScan names (form ∷ forms) tokens
    by [] left scans = scans
    by (field ∷ row) left scans = none field scans.0 scans.1

pub no_others : {old new : List ℕ → List (List ℕ) → Type 0} {form : Form} {forms all : List Form} {tokens behind : List Token} {before after : List ℕ}
    → all ≡ form ∷ forms → SameNames old new → AppendsForm old form tokens behind before after → NoFormsScan new forms behind
    → NoFormsScan old all tokens
no_others {old} {new} {form} {forms} {all} {tokens} {behind} is same first none = subst (λ l. NoFormsScan old l tokens) (sym is) by
  where
    by : NoFormsScan old (form ∷ forms) tokens
    by [] left scans = scans
    by (field ∷ row) left scans =
        let place : scans.0 ≡ behind = leaves scans.1 ∙ sym (leaves first.scans) in
        none row left
        (subst (λ l. ScansForms new forms row l left) place (forms_there (swap same) forms row scans.0 left scans.2))

-- The first fields are scanned, and those of the forms that are left are not yet.
pub record ScansOn (old_names new_names : List ℕ → List (List ℕ) → Type 0) (all forms : List Form) (tokens behind : List Token) (old now : List ℕ) : Type 0 where
  pub names : SameNames old_names new_names
  pub on : (left : List Token) (new : List ℕ) → AppendsForms new_names forms behind left now new → AppendsForms old_names all tokens left old new
  pub none : NoFormsScan new_names forms behind → NoFormsScan old_names all tokens
  pub more : GoesOn old now

pub scans_none : (names : List ℕ → List (List ℕ) → Type 0) (forms : List Form) (tokens : List Token) (old : List ℕ)
    → ScansOn names names forms forms tokens tokens old old
scans_none names forms tokens old = record {
  names = λ text name. (λ is. is, λ is. is);
  on = λ left new is. is;
  none = λ none. none;
  more = goes_none old;
}

pub scans_form : {old_names middle_names new_names : List ℕ → List (List ℕ) → Type 0} {form : Form} {all forms others : List Form}
    {tokens behind next : List Token} {old now new : List ℕ} → ScansOn old_names middle_names all forms tokens behind old now → forms ≡ form ∷ others
    → SameNames middle_names new_names → AppendsForm middle_names form behind next now new → GoesOn now new
    → ScansOn old_names new_names all others tokens next old new
scans_form so is same first more = record {
  names = same_names_join _ _ _ so.names same;
  on = λ left last appends. so.on left last (forms_appended is same first appends);
  none = λ none. so.none (no_others is same first none);
  more = goes_join so.more more;
}
