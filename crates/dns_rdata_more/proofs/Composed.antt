-- Fields that are written in canonical form.
use Rattle.std.proofs.Common.{◌≡◌, ◌++◌, ℕ, List, ◌∷◌, ◌∙◌, length, ap, sym, refl, arith, append_assoc, length-append}
use Rattle.std.specs.Prelude.{Option, Result, Ok, Err, OnOk, Some, unwrap_or, []}
use Rattle.dns_octets.specs.Builder.{IsPast}
use Rattle.dns_name.proofs.Growth.{IsPast-from}
use Rattle.dns_fields.specs.Fields.{Field, field_octets}
use Rattle.dns_fields_more.specs.Forms.{forms_of, lowered_as}
use Rattle.dns_fields_more.specs.Rows.{EndWell, StandAs}
use Rattle.dns_fields_more.specs.Values.{StandsIn}
use Rattle.dns_fields_more.specs.declared.form.Form.{Form}
use Rattle.dns_rdata_more.specs.FurtherData.{canonical_of, lowered_octets}
use Rattle.dns_rdata_more.proofs.Rows.{lowered_first}

module _ {forms others : List Form} {form : Form} {whole rest : List ℕ} {field : Field} (is : forms ≡ form ∷ others) (well : EndWell forms)
    (stands : StandsIn form whole field rest) (row : StandAs forms whole) where
  -- the octets of the first field, and then those of the others
  pub both_written : {T E : Type 0} (old middle new : List ℕ) (result : Result T E) → middle ≡ old ++ field_octets (lowered_as form field)
      → OnOk result (new ≡ middle ++ lowered_octets others rest) → OnOk result (new ≡ old ++ lowered_octets forms whole)
  both_written old middle new (Ok value) first then =
      then ∙ ap (λ l. l ++ lowered_octets others rest) first ∙ append_assoc old (field_octets (lowered_as form field)) (lowered_octets others rest) ∙ ap (λ l. old ++ l) (sym (lowered_first is well stands row))
  both_written old middle new (Err error) first then = tt

  -- what is past a bound after the first field, or the others, is past it after both
  pub first_past : (bound : Option ℕ) (old : List ℕ) → IsPast bound (length (old ++ field_octets (lowered_as form field)))
      → IsPast bound (length (old ++ lowered_octets forms whole))
  first_past bound old past =
      IsPast-from bound bound _ _ refl
      (omega (
        arith,
        length-append old (field_octets (lowered_as form field)),
        length-append old (lowered_octets forms whole),
        length-append (field_octets (lowered_as form field)) (lowered_octets others rest),
        ap (length {A = ℕ}) (lowered_first is well stands row),
      ))
      past

  pub others_past : (bound other : Option ℕ) (old middle : List ℕ) → other ≡ bound → middle ≡ old ++ field_octets (lowered_as form field)
      → IsPast other (length (middle ++ lowered_octets others rest)) → IsPast bound (length (old ++ lowered_octets forms whole))
  others_past bound other old middle same first past =
      IsPast-from bound other _ _ same
      (omega (
        arith,
        ap (length {A = ℕ}) first,
        length-append old (field_octets (lowered_as form field)),
        length-append middle (lowered_octets others rest),
        length-append old (lowered_octets forms whole),
        length-append (field_octets (lowered_as form field)) (lowered_octets others rest),
        ap (length {A = ℕ}) (lowered_first is well stands row),
      ))
      past

-- the canonical form of data is that of its forms
pub canonical_forms : (rtype : ℕ) (forms : List Form) (whole : List ℕ) → forms_of rtype ≡ Some forms → canonical_of rtype whole ≡ lowered_octets forms whole
unfolding canonical_of
canonical_forms rtype forms whole its = λ i. lowered_octets (unwrap_or (its i) []) whole
