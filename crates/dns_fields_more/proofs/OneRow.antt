-- Tokens are one row of forms at most, and leave the same tokens, where a text is one name at most. That of a bitmap of types holds
-- if the numbers in it are octets; its types alone do not say so.
use Rattle.std.proofs.Common.{◌≡◌, ℕ, List, [], ◌∷◌, ◌++◌, Option, Some, refl, sym, ◌∙◌, ap, subst}
use Rattle.std.specs.Prelude.{⊤}
use Rattle.dns_label.specs.Octets.{AreOctets}
use Rattle.dns_scan.specs.Scans.{ScansWord}
use Rattle.dns_scan.specs.Token.{IsWord, Takes, Token}
use Rattle.dns_fields.specs.Fields.{Field, field_octets, kind_of, number16, number32, number8, octets, rest16, rest64, string}
use Rattle.dns_fields.specs.Scanned.{ScansField}
use Rattle.dns_fields.specs.SpelledNames.{SpellOne}
use Rattle.dns_fields.proofs.FieldKinds.{of_number16, of_number32, of_number8, of_rest16, of_rest64, of_string}
use Rattle.dns_fields.proofs.ScannedOnce.{row_one}
use Rattle.dns_field_texts.specs.Hardware.{IsHardwareText}
use Rattle.dns_field_texts.specs.HashWords.{IsHashWord, IsSaltWord}
use Rattle.dns_field_texts.specs.Location.{location_octets}
use Rattle.dns_field_texts.specs.NumberedWords.{algorithm_read, certificate_type_read}
use Rattle.dns_field_texts.specs.TypeWords.{type_word_read}
use Rattle.dns_field_texts.specs.Time.{time_read}
use Rattle.dns_field_texts.proofs.HardwareText.{hardware_one}
use Rattle.dns_field_texts.proofs.HashWords.{hash_one, salt_one}
use Rattle.dns_service_parameters.specs.Service.{octets_of}
use Rattle.dns_fields_more.specs.declared.form.Form.{Form}
use Rattle.dns_fields_more.specs.declared.form.Form.TheVariants.{Number8, Number16, Number32, Name, CasedName, String, RestText, Rest16, Rest64, Rtype as RtypeForm, Algorithm, CertificateType, Time, Salt, Hash, Types, Parameters, Location as LocationForm, Eui48, Eui64}
use Rattle.dns_fields_more.specs.Forms.{kind_of_form}
use Rattle.dns_fields_more.specs.Text.{ScansForms, SpellsForm}
use Rattle.dns_fields_more.proofs.OneLocation.{location_one}
use Rattle.dns_fields_more.proofs.OneParameters.{scanned_parameters_one}
use Rattle.dns_fields_more.proofs.OneTypes.{types_one}
use Rattle.dns_fields_more.proofs.ScanRows.{leaves}

-- what is asked of the octets of a field of the form, and of each field of a row
abbrev pub Clear : Form → Field → Type 0
Clear Types field = AreOctets (field_octets field)
Clear form field = ⊤

abbrev pub AreClear : List Form → List Field → Type 0
AreClear [] row = ⊤
AreClear (form ∷ forms) [] = ⊤
AreClear (form ∷ forms) (field ∷ row) = Clear form field × AreClear forms row

-- the first word
module _ {tokens left rest : List Token} where
  word_one : {text other : List ℕ} → Takes (IsWord text) tokens left → Takes (IsWord other) tokens rest → other ≡ text
  word_one takes also =
      let both = sym takes.is ∙ also.is in
      let first : takes.token ≡ also.token = cc in
      ap (λ (t : Token). t.text) (sym also.fits.0 ∙ sym first ∙ takes.fits.0)

  read_one : {reads : List ℕ → Option ℕ} {n m : ℕ} → ScansWord reads tokens n left → ScansWord reads tokens m rest → n ≡ m
  read_one {reads} {n} {m} scans also =
      let both : Some n ≡ Some m = sym scans.reads_as ∙ ap reads (sym (word_one scans.takes also.takes)) ∙ also.reads_as in cc

  of_word : (P : List ℕ → List ℕ → Type 0) → ((text a b : List ℕ) → P text a → P text b → a ≡ b) → {octets others : List ℕ}
      → (text : List ℕ) × Takes (IsWord text) tokens left × P text octets → (text : List ℕ) × Takes (IsWord text) tokens rest × P text others
      → octets ≡ others
  of_word P one {octets} {others} is also =
      one is.0 octets others is.2 (subst (λ (t : List ℕ). P t others) (word_one is.1 also.1) also.2)

-- one field
module _ (names : List ℕ → List (List ℕ) → Type 0) (once : SpellOne names) (tokens left rest : List Token) where
  -- of a kind that is there
  plain : (field other : Field) → kind_of other ≡ kind_of field → ScansField names field tokens left → ScansField names other tokens rest → field ≡ other
  plain field other kind scans also =
      let whole = (row_one names once (field ∷ []) (other ∷ []) tokens left rest (ap (λ k. k ∷ []) kind) (left, scans, refl) (rest, also, refl)).0 in
      cc

  abbrev Same : Form → Field → Field → Type 0
  Same form field other =
      SpellsForm names form field tokens left → SpellsForm names form other tokens rest → Clear form field → Clear form other → field ≡ other

  both8 : (form : Form) (field other : Field) → kind_of field ≡ kind_of_form Algorithm → kind_of other ≡ kind_of_form Algorithm
      → ((n m : ℕ) → Same form (number8 n) (number8 m)) → Same form field other
  both8 form field other is also each =
      of_number8 (λ f. Same form f other) field (λ n. of_number8 (Same form (number8 n)) other (each n) also) is

  both16 : (form : Form) (field other : Field) → kind_of field ≡ kind_of_form RtypeForm → kind_of other ≡ kind_of_form RtypeForm
      → ((n m : ℕ) → Same form (number16 n) (number16 m)) → Same form field other
  both16 form field other is also each =
      of_number16 (λ f. Same form f other) field (λ n. of_number16 (Same form (number16 n)) other (each n) also) is

  both32 : (form : Form) (field other : Field) → kind_of field ≡ kind_of_form Time → kind_of other ≡ kind_of_form Time
      → ((n m : ℕ) → Same form (number32 n) (number32 m)) → Same form field other
  both32 form field other is also each =
      of_number32 (λ f. Same form f other) field (λ n. of_number32 (Same form (number32 n)) other (each n) also) is

  both_strings : (form : Form) (field other : Field) → kind_of field ≡ kind_of_form Salt → kind_of other ≡ kind_of_form Salt
      → ((a b : List ℕ) → Same form (string a) (string b)) → Same form field other
  both_strings form field other is also each =
      of_string (λ f. Same form f other) field (λ a. of_string (Same form (string a)) other (each a) also) is

  both_rests : (form : Form) (field other : Field) → kind_of field ≡ kind_of_form Types → kind_of other ≡ kind_of_form Types
      → ((a b : List ℕ) → Same form (rest16 a) (rest16 b)) → Same form field other
  both_rests form field other is also each =
      of_rest16 (λ f. Same form f other) field (λ a. of_rest16 (Same form (rest16 a)) other (each a) also) is

  both64 : (form : Form) (field other : Field) → kind_of field ≡ kind_of_form Rest64 → kind_of other ≡ kind_of_form Rest64
      → ((a b : List ℕ) → Same form (rest64 a) (rest64 b)) → Same form field other
  both64 form field other is also each =
      of_rest64 (λ f. Same form f other) field (λ a. of_rest64 (Same form (rest64 a)) other (each a) also) is

  field_one : (form : Form) (field other : Field) → kind_of field ≡ kind_of_form form → kind_of other ≡ kind_of_form form → Same form field other
  field_one Number8 field other is also = λ s t c d. plain field other (also ∙ sym is) s t
  field_one Number16 field other is also = λ s t c d. plain field other (also ∙ sym is) s t
  field_one Number32 field other is also = λ s t c d. plain field other (also ∙ sym is) s t
  field_one Name field other is also = λ s t c d. plain field other (also ∙ sym is) s t
  field_one CasedName field other is also = λ s t c d. plain field other (also ∙ sym is) s t
  field_one String field other is also = λ s t c d. plain field other (also ∙ sym is) s t
  field_one RestText field other is also = λ s t c d. plain field other (also ∙ sym is) s t
  field_one Rest16 field other is also = both_rests Rest16 field other is also (λ a b s t c d. plain (rest16 a) (rest16 b) refl s.0 t.0)
  field_one Rest64 field other is also = both64 Rest64 field other is also (λ a b s t c d. plain (rest64 a) (rest64 b) refl s.0 t.0)
  field_one RtypeForm field other is also = both16 RtypeForm field other is also (λ n m s t c d. ap number16 (read_one {reads = type_word_read} s t))
  field_one Algorithm field other is also = both8 Algorithm field other is also (λ n m s t c d. ap number8 (read_one {reads = algorithm_read} s t))
  field_one CertificateType field other is also =
      both16 CertificateType field other is also (λ n m s t c d. ap number16 (read_one {reads = certificate_type_read} s t))
  field_one Time field other is also = both32 Time field other is also (λ n m s t c d. ap number32 (read_one {reads = time_read} s t))
  field_one Salt field other is also = both_strings Salt field other is also (λ a b s t c d. ap string (of_word IsSaltWord salt_one s t))
  field_one Hash field other is also = both_strings Hash field other is also (λ a b s t c d. ap string (of_word IsHashWord hash_one s t))
  field_one Types field other is also = both_rests Types field other is also (λ a b s t c d. ap rest16 (types_one c d s t))
  field_one Parameters field other is also =
      both_rests Parameters field other is also
      (λ a b s t c d. ap rest16 (s.2 ∙ ap octets_of (scanned_parameters_one s.1 t.1) ∙ sym t.2))
  field_one LocationForm field other is also =
      both_rests LocationForm field other is also (λ a b s t c d. ap rest16 (s.2 ∙ ap location_octets (location_one s.1 t.1) ∙ sym t.2))
  field_one Eui48 field other is also = both_rests Eui48 field other is also (λ a b s t c d. ap rest16 (of_word (IsHardwareText 6) (hardware_one 6) s t))
  field_one Eui64 field other is also = both_rests Eui64 field other is also (λ a b s t c d. ap rest16 (of_word (IsHardwareText 8) (hardware_one 8) s t))

-- what is left
pub forms_left : (names : List ℕ → List (List ℕ) → Type 0) (forms : List Form) (row other : List Field) (tokens left rest : List Token)
    → ScansForms names forms row tokens left → ScansForms names forms other tokens rest → left ≡ rest
forms_left names [] [] [] tokens left rest scans also = scans ∙ sym also
forms_left names [] [] (other ∷ others) tokens left rest scans also = absurd also
forms_left names [] (field ∷ row) other tokens left rest scans also = absurd scans
forms_left names (form ∷ forms) [] other tokens left rest scans also = absurd scans
forms_left names (form ∷ forms) (field ∷ row) [] tokens left rest scans also = absurd also
forms_left names (form ∷ forms) (field ∷ row) (other ∷ others) tokens left rest scans also =
    let place : also.0 ≡ scans.0 = leaves also.1 ∙ sym (leaves scans.1) in
    forms_left names forms row others scans.0 left rest scans.2 (subst (λ (l : List Token). ScansForms names forms others l rest) place also.2)

-- the row
pub clear_one : (names : List ℕ → List (List ℕ) → Type 0) → SpellOne names → (forms : List Form) (row other : List Field) (tokens left rest : List Token)
    → ScansForms names forms row tokens left → ScansForms names forms other tokens rest → AreClear forms row → AreClear forms other → row ≡ other
clear_one names once [] [] [] tokens left rest scans also is are = refl
clear_one names once [] [] (other ∷ others) tokens left rest scans also is are = absurd also
clear_one names once [] (field ∷ row) other tokens left rest scans also is are = absurd scans
clear_one names once (form ∷ forms) [] other tokens left rest scans also is are = absurd scans
clear_one names once (form ∷ forms) (field ∷ row) [] tokens left rest scans also is are = absurd also
clear_one names once (form ∷ forms) (field ∷ row) (other ∷ others) tokens left rest scans also is are =
    let first = field_one names once tokens scans.0 also.0 form field other scans.1.is.kind also.1.is.kind scans.1.spelled also.1.spelled is.0 are.0 in
    let place : also.0 ≡ scans.0 = leaves also.1 ∙ sym (leaves scans.1) in
    let behind = clear_one names once forms row others scans.0 left rest scans.2
    (subst (λ (l : List Token). ScansForms names forms others l rest) place also.2) is.1 are.1 in
    λ i. first i ∷ behind i

pub octets_apart : (xs ys : List ℕ) → AreOctets (xs ++ ys) → AreOctets xs × AreOctets ys
octets_apart [] ys are = (tt, are)
octets_apart (x ∷ xs) ys are = let both = octets_apart xs ys are.1 in ((are.0, both.0), both.1)

clear : (form : Form) (field : Field) → AreOctets (field_octets field) → Clear form field
clear Types field are = are
clear Number8 field are = tt
clear Number16 field are = tt
clear Number32 field are = tt
clear Name field are = tt
clear CasedName field are = tt
clear String field are = tt
clear RestText field are = tt
clear Rest16 field are = tt
clear Rest64 field are = tt
clear RtypeForm field are = tt
clear Algorithm field are = tt
clear CertificateType field are = tt
clear Time field are = tt
clear Salt field are = tt
clear Hash field are = tt
clear Parameters field are = tt
clear LocationForm field are = tt
clear Eui48 field are = tt
clear Eui64 field are = tt

all_clear : (forms : List Form) (row : List Field) → AreOctets (octets row) → AreClear forms row
all_clear [] row are = tt
all_clear (form ∷ forms) [] are = tt
all_clear (form ∷ forms) (field ∷ row) are =
    let both = octets_apart (field_octets field) (octets row) are in (clear form field both.0, all_clear forms row both.1)

pub scanned_one : (names : List ℕ → List (List ℕ) → Type 0) (forms : List Form) (row other : List Field) (tokens left rest : List Token)
    → SpellOne names → ScansForms names forms row tokens left → ScansForms names forms other tokens rest → AreOctets (octets row)
    → AreOctets (octets other) → (row ≡ other) × (left ≡ rest)
scanned_one names forms row other tokens left rest once scans also are also_are = (
  clear_one names once forms row other tokens left rest scans also (all_clear forms row are) (all_clear forms other also_are),
  forms_left names forms row other tokens left rest scans also,
)
