-- The row that is read where octets are a row.
use Rattle.std.proofs.Common.{◌≡◌, ℕ, Bool, List, refl, sym, subst}
use Rattle.dns_text.specs.Rows.{TokenRow}
use Rattle.dns_entry_scanner.specs.RowFound.{IsFoundAt}
use Rattle.dns_entry_scanner.specs.declared.token_span.TokenSpan.{TokenSpan}
use Rattle.dns_entry_scanner.specs.declared.row.RowFound.{RowFound}
use Rattle.dns_entry_scanner.specs.declared.row.RowFound.TheVariants.{End, Broken}
use Rattle.dns_entry_scanner.specs.declared.row.RowFound.TheVariants.{Row as Found}
use Rattle.zone_general.specs.Rewritten.{AreRow}
use Rattle.zone_general.proofs.GeneralRows.{row_no_end, row_not_broken}

-- a row is found
pub is_found : (octets text : List ℕ) (spans : List TokenSpan) (found : RowFound) {row : TokenRow} → text ≡ octets → IsFoundAt text 0 spans found
    → AreRow octets row → ((next : ℕ) (blank_led : Bool) → found ≡ Found next blank_led → ⊥) → ⊥
is_found octets text spans found {row} same is are none = by found is none
  where
    there : AreRow text row
    there = subst (λ (l : List ℕ). AreRow l row) (sym same) are

    by : (found : RowFound) → IsFoundAt text 0 spans found → ((next : ℕ) (blank_led : Bool) → found ≡ Found next blank_led → ⊥) → ⊥
    by (Found next blank_led) is none = none next blank_led refl
    by End is none = row_no_end there is
    by Broken is none = row_not_broken there is.1
