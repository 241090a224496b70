-- Passing over a row or a line of a text.
use Rattle.std.specs.Prelude.{◌≡◌, ◌+◌, ℕ, Bool, false, true, List, drop}
use Rattle.std.proofs.Common.{refl, subst}
use Rattle.dns_text.specs.Tokens.{is_end}
use Rattle.dns_entry_scanner.specs.RowFound.{IsFoundAt, NoRow}
use Rattle.dns_entry_scanner.specs.declared.row.RowFound.{RowFound}
use Rattle.dns_entry_scanner.specs.declared.row.RowFound.TheVariants.{Row as Found}
use Rattle.dns_entry_scanner.specs.declared.token_span.TokenSpan.{TokenSpan}
use Rattle.dns_zonefile.specs.Entry.{Context}
use Rattle.dns_zonefile.specs.PassedOver.{PassesOver}
use Rattle.dns_entry_scanner.specs.Lines.{behind_line}
use Rattle.dns_zonefile.specs.PassedOver.IsPassed.{row, line}
use Rattle.dns_zonefile.specs.PassedOver.PassesOver.{over, ended}

pub over_row : (text : List ℕ) (place next count : ℕ) (context : Context) (spans : List TokenSpan) (led : Bool) (found : RowFound)
    → found ≡ Found next led → IsFoundAt text place spans found
    → PassesOver (record { text = text; place = place; context = context; count = count })
    (record { text = text; place = next; context = context; count = count + 1 })
over_row text place next count context spans led found is at =
    over (row _ (subst (IsFoundAt text place spans) is at).row) refl refl refl

pub over_line : (text : List ℕ) (place next count : ℕ) (context : Context) → NoRow (drop place text)
    → drop next text ≡ behind_line (drop place text)
    → PassesOver (record { text = text; place = place; context = context; count = count })
    (record { text = text; place = next; context = context; count = count + 1 })
over_line text place next count context none left = over (line none left) refl refl refl

pub over_end : (text : List ℕ) (place count : ℕ) (context : Context) → is_end (drop place text) ≡ true
    → PassesOver (record { text = text; place = place; context = context; count = count })
    (record { text = text; place = place; context = context; count = count })
over_end text place count context is_ended = ended is_ended refl
