-- Rows of fields of forms, taken apart and put together.
use Rattle.std.proofs.Common.{◌≡◌, ◌==◌, ℕ, Bool, true, false, List, [], ◌∷◌, ◌++◌, ◌∙◌, length, ap, sym, refl, subst, arith, rules}
use Rattle.std.specs.Prelude.{◌↔◌, IsTrue, Option, Some, None, if◌then◌else◌, ⊤}
use Rattle.std.specs.List.{AllByRecursion}
use Rattle.dns_fields.specs.Fields.{Field, field_octets, octets}
use Rattle.dns_fields_more.specs.Forms.{AreFieldsOf, forms_in, forms_of, further, is_last}
use Rattle.dns_fields_more.specs.Values.{NoneStandsIn, StandsIn}
use Rattle.dns_fields_more.specs.Rows.{EndWell, StandAs}
use Rattle.dns_fields_more.specs.declared.form.Form.{Form}
use Rattle.dns_fields_more.proofs.Sole.{sole}

abbrev Fit : Option (List Form) → Type 0
Fit None = ⊤
Fit (Some forms) = EndWell forms

either : (b : Bool) (x y : Option (List Form)) → Fit x → Fit y → Fit (if b then x else y)
either true x y this that = this
either false x y this that = that

fits_in : (rows : List (ℕ × List Form)) → AllByRecursion (λ (row : ℕ × List Form). EndWell row.1) rows → (rtype : ℕ)
    → Fit (forms_in rows rtype)
fits_in [] well rtype = tt
fits_in (row ∷ rows) well rtype = either (rtype == row.0) _ _ well.0 (fits_in rows well.1 rtype)

fits : (rtype : ℕ) → Fit (forms_of rtype)
fits = fits_in further (search rules)

-- only the last field of a further type has all octets that are left
pub table_well : (rtype : ℕ) (forms : List Form) → forms_of rtype ≡ Some forms → EndWell forms
table_well rtype forms is = subst Fit is (fits rtype)

pub others_well : (form : Form) (forms : List Form) → EndWell (form ∷ forms) → EndWell forms
others_well form [] well = tt
others_well form (other ∷ forms) well = well.1

-- no fields are no octets
pub none_stand : (whole : List ℕ) → StandAs [] whole → whole ≡ []
none_stand whole stands = by stands.row stands.each stands.written
  where
    by : (row : List Field) → AreFieldsOf [] row → whole ≡ octets row → whole ≡ []
    by [] each written = written
    by (field ∷ row) each written = absurd each

pub nothing_stands : (whole : List ℕ) → whole ≡ [] → StandAs [] whole
nothing_stands whole is = record { row = []; each = tt; written = is }

-- the first field of a row, with the others behind it
pub record Parted (form : Form) (forms : List Form) (whole : List ℕ) : Type 0 where
  pub field : Field
  pub rest : List ℕ
  pub stands : StandsIn form whole field rest
  pub others : StandAs forms rest

pub last_of : (form : Form) (forms : List Form) (row : List Field) → EndWell (form ∷ forms) → AreFieldsOf forms row → is_last form ≡ true
    → octets row ≡ []
last_of form [] [] well each last = refl
last_of form [] (field ∷ row) well each last = absurd each
last_of form (other ∷ forms) row well each last = absurd (let no = well.0 in cc)

pub parted : (form : Form) (forms : List Form) (whole : List ℕ) → EndWell (form ∷ forms) → StandAs (form ∷ forms) whole → Parted form forms whole
parted form forms whole well stands = by stands.row stands.each stands.written
  where
    by : (row : List Field) → AreFieldsOf (form ∷ forms) row → whole ≡ octets row → Parted form forms whole
    by [] each written = absurd each
    by (field ∷ row) each written = record {
      field = field;
      rest = octets row;
      stands = record { is = each.0; written = written; last = last_of form forms row well each.1 };
      others = record { row = row; each = each.1; written = refl };
    }

-- a field before a row
pub before : {form : Form} {forms : List Form} {whole rest : List ℕ} {field : Field} → StandsIn form whole field rest → StandAs forms rest
    → StandAs (form ∷ forms) whole
before {field = field} stands others = record {
  row = field ∷ others.row;
  each = (stands.is, others.each);
  written = stands.written ∙ ap (λ l. field_octets field ++ l) others.written;
}

-- what is behind the first field of a row is the row of the others
pub behind : (form : Form) (forms : List Form) (whole rest : List ℕ) (field : Field) → EndWell (form ∷ forms) → StandsIn form whole field rest
    → StandAs (form ∷ forms) whole → StandAs forms rest
behind form forms whole rest field well stands row =
    let its = parted form forms whole well row in
    subst (StandAs forms) (sole form whole its.field field its.rest rest its.stands stands).1 its.others

pub no_first : (form : Form) (forms : List Form) (whole : List ℕ) → EndWell (form ∷ forms) → NoneStandsIn form whole → StandAs (form ∷ forms) whole → ⊥
no_first form forms whole well none row = let its = parted form forms whole well row in none its.field its.rest its.stands

pub none_left : {A : Type 0} (whole : List A) → length whole ≡ 0 → whole ≡ []
none_left [] none = refl
none_left (octet ∷ rest) none = absurd (omega (arith, none))

is_zero : (n : ℕ) → IsTrue (n == 0) → n ≡ 0
is_zero n is = search rules

zero_is : (n : ℕ) → n ≡ 0 → IsTrue (n == 0)
zero_is n is = search rules

-- the end of a row
pub ended : {forms : List Form} {whole : List ℕ} {count : ℕ} → length forms ≡ 0 → count ≡ length whole → IsTrue (count == 0) ↔ StandAs forms whole
ended {forms} {whole} {count} none counted =
    let none_left' : IsTrue (count == 0) → StandAs [] whole = λ zero. nothing_stands whole (none_left whole (sym counted ∙ is_zero count zero)) in
    let back : StandAs [] whole → IsTrue (count == 0) = λ row. zero_is count (counted ∙ ap (length {A = ℕ}) (none_stand whole row)) in
    subst (λ l. IsTrue (count == 0) ↔ StandAs l whole) (sym (none_left forms none)) (none_left', back)

-- a field before the others of a row
pub step : {forms others : List Form} {form : Form} {whole rest : List ℕ} {field : Field} {b : Bool} → forms ≡ form ∷ others → EndWell forms
    → StandsIn form whole field rest → (IsTrue b ↔ StandAs others rest) → IsTrue b ↔ StandAs forms whole
step {forms} {others} {form} {whole} {rest} {field} {b} is well stands both =
    let well' = subst EndWell is well in
    subst (λ l. IsTrue b ↔ StandAs l whole) (sym is)
    (λ yes. before stands (both.0 yes), λ row. both.1 (behind form others whole rest field well' stands row))

pub none : {forms others : List Form} {form : Form} {whole : List ℕ} → forms ≡ form ∷ others → EndWell forms → NoneStandsIn form whole
    → StandAs forms whole → ⊥
none {forms} {others} {form} {whole} is well lacks row =
    no_first form others whole (subst EndWell is well) lacks (subst (λ l. StandAs l whole) is row)
