use Rattle.std.proofs.Common.{ℕ, List, refl, sym, ◌∙◌, ap, subst}
use Rattle.std.specs.List.{list_all}
use Rattle.dns_label.specs.Symbol.{is_plain}
use Rattle.dns_scan.specs.Token.{IsWord, unquoted}
use Rattle.dns_scan.proofs.Entries.{Entering, entering_more, entering_end, ending_more}
use Rattle.dns_scan.proofs.scan.iter_scanner.IterScannerScanner.scan_ascii_entry.Goals as goal

pub returns-in_default-clause-ok : goal.returns-in_default-clause-ok
returns-in_default-clause-ok c =
    (entering_end IsWord _ _ _ c.loop-text.invariant c.in_default.ensures.err.0, c.in_default.ensures.err.1)

pub returns-then-not-are_plain-clause-left : goal.returns-then-not-are_plain-clause-left
returns-then-not-are_plain-clause-left c = ending_more _ _ _ _ c.loop-text.invariant.ending c.in-Ok.ensures.ok

pub returns-in-Err-clause-left : goal.returns-in-Err-clause-left
returns-in-Err-clause-left c = ending_more _ _ _ _ c.loop-text.invariant.ending c.in-Ok.ensures.ok

pub loop-text-preserved : goal.loop-text-preserved
loop-text-preserved c =
    let P : List ℕ → Type 0 = λ l. Entering IsWord c.args.self.now c.next_text.new.self l in
    subst P (sym c.in-Ok-push_str.ensures.bytes)
    (entering_more IsWord _ _ _ (unquoted c.in-Ok.text.now) _ c.in-Ok.text.now c.loop-text.invariant c.in-Ok.ensures.ok
    (refl, ap (list_all is_plain) (sym c.as_bytes.ensures.value) ∙ sym c.if-not-are_plain.ensures))
