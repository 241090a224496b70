-- Data as a whole.
use Rattle.std.proofs.Common.{◌≡◌, ◌≤◌, ◌++◌, ℕ, List, [], ◌∷◌, ◌∙◌, length, drop, ap, sym, subst, arith}
use Rattle.std.specs.Prelude.{Some}
use Rattle.dns_fields.specs.Fields.{Field, octets}
use Rattle.dns_octets.specs.declared.parser.Parser.{Parser}
use Rattle.dns_octets.specs.Parser.{octets_of, place_of, rest_of}
use Rattle.dns_scan.specs.Token.{Token}
use Rattle.dns_fields_more.specs.Forms.{AreFieldsOf, IsFurtherData, forms_of}
use Rattle.dns_fields_more.specs.Rows.{StandAs}
use Rattle.dns_fields_more.specs.Text.{AppendsFurther, ScansForms}
use Rattle.dns_fields_more.specs.declared.form.Form.{Form}

-- data has at most 65,535 octets
pub short_data : {rtype : ℕ} {whole : List ℕ} → IsFurtherData rtype whole → length whole ≤ 65535
short_data is = omega (arith, is.is_row.short, ap (length {A = ℕ}) is.written)

-- it is fields of the forms of its type
pub stand_data : {rtype : ℕ} {whole : List ℕ} {forms : List Form} → forms_of rtype ≡ Some forms → IsFurtherData rtype whole → StandAs forms whole
stand_data {rtype} {whole} {forms} its is =
    let same : is.is_row.forms ≡ forms = (let e : Some is.is_row.forms ≡ Some forms = sym is.is_row.its ∙ its in cc) in
    record { row = is.row; each = subst (λ l. AreFieldsOf l is.row) same is.is_row.each; written = is.written }

-- the fields of a row that is scanned are of their forms
scanned_each : (names : List ℕ → List (List ℕ) → Type 0) (forms : List Form) (row : List Field) (tokens left : List Token)
    → ScansForms names forms row tokens left → AreFieldsOf forms row
scanned_each names [] [] tokens left scans = tt
scanned_each names [] (field ∷ row) tokens left scans = absurd scans
scanned_each names (form ∷ forms) [] tokens left scans = absurd scans
scanned_each names (form ∷ forms) (field ∷ row) tokens left scans = (scans.1.is, scanned_each names forms row scans.0 left scans.2)

-- what is scanned is data
pub scanned_data : {names : List ℕ → List (List ℕ) → Type 0} {rtype : ℕ} {tokens left : List Token} {old new : List ℕ} → old ≡ []
    → AppendsFurther names rtype tokens left old new → IsFurtherData rtype new
scanned_data {names} {rtype} {tokens} {left} {old} {new} none is = record {
  row = is.row;
  is_row = record {
    forms = is.scans.forms;
    its = is.scans.its;
    each = scanned_each names is.scans.forms is.row tokens left is.scans.scans;
    short = omega (arith, is.scans.short);
  };
  written = is.behind ∙ ap (λ l. l ++ octets is.row) none;
}

-- all octets are left at the start
pub at_start : (parser : Parser) {whole : List ℕ} → place_of parser ≡ 0 → octets_of parser ≡ whole → rest_of parser ≡ whole
at_start parser place octets = λ i. drop (place i) (octets i)
