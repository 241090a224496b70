use Rattle.std.proofs.Common.{ℕ, List, refl, sym, subst}
use Rattle.dns_name.proofs.Flat.{always_on_err}
use Rattle.dns_scan.specs.CharStr.{string_wire}
use Rattle.dns_scan.specs.Token.{IsStringOnWire, unquoted}
use Rattle.dns_scan.proofs.Entries.{Entering, entering_more, entering_end, ending_more}
use Rattle.dns_scan.proofs.scan.iter_scanner.IterScannerScanner.scan_charstr_entry.Goals as goal

pub returns-in_default-clause-ok : goal.returns-in_default-clause-ok
returns-in_default-clause-ok c =
    (entering_end IsStringOnWire _ _ _ c.loop-text.invariant c.in_default.ensures.err.0, c.in_default.ensures.err.1)

pub returns-in_err-string-clause-left : goal.returns-in_err-string-clause-left
returns-in_err-string-clause-left c =
    always_on_err c.from_residual.result (ending_more _ _ _ _ c.loop-text.invariant.ending c.in-Ok.ensures.ok)

pub returns-in-Err-clause-left : goal.returns-in-Err-clause-left
returns-in-Err-clause-left c = ending_more _ _ _ _ c.loop-text.invariant.ending c.in-Ok.ensures.ok

pub loop-text-preserved : goal.loop-text-preserved
loop-text-preserved c =
    let P : List ℕ → Type 0 = λ l. Entering IsStringOnWire c.args.self.now c.next_text.new.self l in
    subst P (sym c.in-Ok-compose.ensures.ok)
    (entering_more IsStringOnWire _ _ _ (unquoted c.in-Ok.text.now) _ (string_wire c.in_ok-string.string) c.loop-text.invariant c.in-Ok.ensures.ok
    (c.in_ok-string.string, c.in_ok-string.ensures.ok, refl))
