-- Tokens are data of a further type in one way, where a text is one name at most: they leave the same tokens, the data has the same
-- octets, and not too many. For a row with a bitmap of types always has few octets, and any other is one.
pub use Rattle.dns_fields_more.proofs.OneRow.{scanned_one}
use Rattle.std.proofs.Common.{◌≡◌, ◌+◌, ◌≤◌, ◌⊎◌, inl, inr, ℕ, Bool, true, false, ◌||◌, ◌==◌, List, [], ◌∷◌, length, Some, if◌then◌else◌, refl, sym, ◌∙◌, ap, subst, arith, length-append}
use Rattle.std.proofs.lemmas.Bool.Decides.{nat_tests}
use Rattle.std.specs.Prelude.{nat_le}
use Rattle.std.specs.List.{AllByRecursion}
use Rattle.dns_label.specs.Octets.{AreOctets}
use Rattle.dns_scan.specs.Token.{Token}
use Rattle.dns_fields.specs.Fields.{Field, IsField, field_octets, kind_of, octets}
use Rattle.dns_fields.specs.SpelledNames.{SpellOne}
use Rattle.dns_fields.proofs.FieldKinds.{of_string, of_uncompressed}
use Rattle.dns_fields.proofs.ReadFields.{number16_fixed, number32_fixed, number8_fixed}
use Rattle.dns_fields_more.specs.declared.form.Form.{Form}
use Rattle.dns_fields_more.specs.declared.form.Form.TheVariants.{Number8, Number16, Number32, Name, CasedName, String, RestText, Rest16, Rest64, Rtype as RtypeForm, Algorithm, CertificateType, Time, Salt, Hash, Types, Parameters, Location as LocationForm, Eui48, Eui64}
use Rattle.dns_fields_more.specs.Forms.{IsFieldOf, forms_in, forms_of, further, kind_of_form}
use Rattle.dns_fields_more.specs.Text.{ScansForms, ScansFurther, ScansLongRow}
use Rattle.dns_fields_more.proofs.OneRow.{AreClear, clear_one, forms_left}
use Rattle.dns_fields_more.proofs.OneTypes.{bitmap_few}

-- how many octets a field of the form has at most, of those that have few
abbrev most_of : Form → ℕ
most_of Number8 = 1
most_of Number16 = 2
most_of Number32 = 4
most_of Name = 255
most_of CasedName = 255
most_of String = 256
most_of RtypeForm = 2
most_of Algorithm = 1
most_of CertificateType = 2
most_of Time = 4
most_of Salt = 256
most_of Hash = 256
most_of Types = 8704
most_of form = 65536

abbrev most_in : List Form → ℕ
most_in [] = 0
most_in (form ∷ forms) = most_of form + most_in forms

name_few : (field : Field) → kind_of field ≡ kind_of_form Name → IsField field → length (field_octets field) ≤ 255
name_few field kind = of_uncompressed (λ f. IsField f → length (field_octets f) ≤ 255) field (λ name is. is.short) kind

string_few : (field : Field) → kind_of field ≡ kind_of_form String → IsField field → length (field_octets field) ≤ 256
string_few field kind = of_string (λ f. IsField f → length (field_octets f) ≤ 256) field (λ each is. omega (arith, is)) kind

field_few : (form : Form) (field : Field) → IsFieldOf form field → most_of form ≤ 65535 → length (field_octets field) ≤ most_of form
field_few Number8 field is few = let size = number8_fixed.long field is.kind is.is_field in omega (arith, size)
field_few Number16 field is few = let size = number16_fixed.long field is.kind is.is_field in omega (arith, size)
field_few Number32 field is few = let size = number32_fixed.long field is.kind is.is_field in omega (arith, size)
field_few Name field is few = name_few field is.kind is.is_field
field_few CasedName field is few = name_few field is.kind is.is_field
field_few String field is few = string_few field is.kind is.is_field
field_few RestText field is few = absurd (omega (arith, few))
field_few Rest16 field is few = absurd (omega (arith, few))
field_few Rest64 field is few = absurd (omega (arith, few))
field_few RtypeForm field is few = let size = number16_fixed.long field is.kind is.is_field in omega (arith, size)
field_few Algorithm field is few = let size = number8_fixed.long field is.kind is.is_field in omega (arith, size)
field_few CertificateType field is few = let size = number16_fixed.long field is.kind is.is_field in omega (arith, size)
field_few Time field is few = let size = number32_fixed.long field is.kind is.is_field in omega (arith, size)
field_few Salt field is few = string_few field is.kind is.is_field
field_few Hash field is few = string_few field is.kind is.is_field
field_few Types field is few = bitmap_few (field_octets field) is.keeps
field_few Parameters field is few = absurd (omega (arith, few))
field_few LocationForm field is few = absurd (omega (arith, few))
field_few Eui48 field is few = absurd (omega (arith, few))
field_few Eui64 field is few = absurd (omega (arith, few))

row_few : (names : List ℕ → List (List ℕ) → Type 0) (forms : List Form) (row : List Field) (tokens left : List Token)
    → ScansForms names forms row tokens left → most_in forms ≤ 65535 → length (octets row) ≤ most_in forms
row_few names [] [] tokens left scans few = omega arith
row_few names [] (field ∷ row) tokens left scans few = absurd scans
row_few names (form ∷ forms) [] tokens left scans few = absurd scans
row_few names (form ∷ forms) (field ∷ row) tokens left scans few =
    let first = field_few form field scans.1.is (omega (arith, few)) in
    let others = row_few names forms row scans.0 left scans.2 (omega (arith, few)) in
    let sum = length-append (field_octets field) (octets row) in
    omega (arith, first, others, sum)

-- forms without a bitmap ask nothing of a row
abbrev none_types : List Form → Bool
none_types [] = true
none_types (Types ∷ forms) = false
none_types (form ∷ forms) = none_types forms

clear_row : (forms : List Form) (row : List Field) → none_types forms ≡ true → AreClear forms row
clear_row [] row none = tt
clear_row (form ∷ forms) [] none = tt
clear_row (Types ∷ forms) (field ∷ row) none = absurd (cc)
clear_row (Number8 ∷ forms) (field ∷ row) none = (tt, clear_row forms row none)
clear_row (Number16 ∷ forms) (field ∷ row) none = (tt, clear_row forms row none)
clear_row (Number32 ∷ forms) (field ∷ row) none = (tt, clear_row forms row none)
clear_row (Name ∷ forms) (field ∷ row) none = (tt, clear_row forms row none)
clear_row (CasedName ∷ forms) (field ∷ row) none = (tt, clear_row forms row none)
clear_row (String ∷ forms) (field ∷ row) none = (tt, clear_row forms row none)
clear_row (RestText ∷ forms) (field ∷ row) none = (tt, clear_row forms row none)
clear_row (Rest16 ∷ forms) (field ∷ row) none = (tt, clear_row forms row none)
clear_row (Rest64 ∷ forms) (field ∷ row) none = (tt, clear_row forms row none)
clear_row (RtypeForm ∷ forms) (field ∷ row) none = (tt, clear_row forms row none)
clear_row (Algorithm ∷ forms) (field ∷ row) none = (tt, clear_row forms row none)
clear_row (CertificateType ∷ forms) (field ∷ row) none = (tt, clear_row forms row none)
clear_row (Time ∷ forms) (field ∷ row) none = (tt, clear_row forms row none)
clear_row (Salt ∷ forms) (field ∷ row) none = (tt, clear_row forms row none)
clear_row (Hash ∷ forms) (field ∷ row) none = (tt, clear_row forms row none)
clear_row (Parameters ∷ forms) (field ∷ row) none = (tt, clear_row forms row none)
clear_row (LocationForm ∷ forms) (field ∷ row) none = (tt, clear_row forms row none)
clear_row (Eui48 ∷ forms) (field ∷ row) none = (tt, clear_row forms row none)
clear_row (Eui64 ∷ forms) (field ∷ row) none = (tt, clear_row forms row none)

-- each row of the table is of the one sort or the other
abbrev IsFine : List Form → Type 0
IsFine forms = (none_types forms ≡ true) ⊎ (most_in forms ≤ 65535)

abbrev is_fine : List Form → Bool
is_fine forms = none_types forms || nat_le (most_in forms) 65535

fine_in : (table : List (ℕ × List Form)) (rtype : ℕ) (forms : List Form) → AllByRecursion (λ row. is_fine row.1 ≡ true) table
    → forms_in table rtype ≡ Some forms → is_fine forms ≡ true
fine_in [] rtype forms each its = absurd (cc)
fine_in (row ∷ rows) rtype forms each its = by (rtype == row.0) its (fine_in rows rtype forms each.1)
  where
    by : (here : Bool) → (if here then Some row.1 else forms_in rows rtype) ≡ Some forms → (forms_in rows rtype ≡ Some forms → is_fine forms ≡ true)
        → is_fine forms ≡ true
    by true same more = let its_forms : row.1 ≡ forms = cc in subst (λ (l : List Form). is_fine l ≡ true) its_forms each.0
    by false same more = more same

all_fine : AllByRecursion (λ (row : ℕ × List Form). is_fine row.1 ≡ true) further
all_fine =
    (refl, (refl, (refl, (refl, (refl, (refl, (refl, (refl, (refl, (refl, (refl, (refl, (refl, (refl, (refl, (refl, (refl, (refl, (refl, tt)))))))))))))))))))

fine_of : (rtype : ℕ) (forms : List Form) → forms_of rtype ≡ Some forms → IsFine forms
fine_of rtype forms its = by (none_types forms) refl (fine_in further rtype forms all_fine its)
  where
    by : (none : Bool) → none_types forms ≡ none → is_fine forms ≡ true → IsFine forms
    by true is fine = inl is
    by false is fine =
        let few : nat_le (most_in forms) 65535 ≡ true = sym (ap (λ b. b || nat_le (most_in forms) 65535) is) ∙ fine in
        inr (grind (arith, nat_tests))

-- data of a type
same_forms : (rtype : ℕ) (forms others : List Form) → forms_of rtype ≡ Some forms → forms_of rtype ≡ Some others → others ≡ forms
same_forms rtype forms others is also = let both : Some others ≡ Some forms = sym also ∙ is in cc

module _ {names : List ℕ → List (List ℕ) → Type 0} {rtype : ℕ} {row other : List Field} {tokens left rest : List Token} where
  its_scans : (scans : ScansFurther names rtype row tokens left) (also : ScansFurther names rtype other tokens rest)
      → ScansForms names scans.forms other tokens rest
  its_scans scans also =
      subst (λ (l : List Form). ScansForms names l other tokens rest) (same_forms rtype scans.forms also.forms scans.its also.its) also.scans

  pub one_left : SpellOne names → ScansFurther names rtype row tokens left → ScansFurther names rtype other tokens rest → left ≡ rest
  one_left once scans also = forms_left names scans.forms row other tokens left rest scans.scans (its_scans scans also)

  pub one_octets : SpellOne names → ScansFurther names rtype row tokens left → ScansFurther names rtype other tokens rest → AreOctets (octets row)
      → AreOctets (octets other) → octets row ≡ octets other
  one_octets once scans also are also_are =
      ap octets (scanned_one names scans.forms row other tokens left rest once scans.scans (its_scans scans also) are also_are).0

pub not_long : {names : List ℕ → List (List ℕ) → Type 0} {rtype : ℕ} {row : List Field} {tokens left : List Token} → SpellOne names
    → ScansFurther names rtype row tokens left → ScansLongRow names rtype tokens → ⊥
not_long {names} {rtype} {row} {tokens} {left} once scans long = by (fine_of rtype scans.forms scans.its)
  where
    its : ScansForms names scans.forms long.row tokens long.left
    its = subst (λ (l : List Form). ScansForms names l long.row tokens long.left) (same_forms rtype scans.forms long.forms scans.its long.its) long.scans

    by : IsFine scans.forms → ⊥
    by (inl none) =
        let same = clear_one names once scans.forms row long.row tokens left long.left scans.scans its (clear_row scans.forms row none)
        (clear_row scans.forms long.row none) in
        let size = ap (λ (r : List Field). length (octets r)) same in
        let short = scans.short in
        let more = long.long in omega (arith, size, short, more)
    by (inr few) =
        let least = row_few names scans.forms long.row tokens long.left its few in
        let more = long.long in omega (arith, least, few, more)
