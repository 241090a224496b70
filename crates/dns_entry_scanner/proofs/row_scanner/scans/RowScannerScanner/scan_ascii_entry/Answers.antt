use Rattle.std.proofs.Common.{ℕ, List, sym, subst}
use Rattle.dns_scan.specs.Token.{IsWord}
use Rattle.dns_scan.proofs.Entries.{Entering, entering_more, entering_end, entering_none, ending_more}
use Rattle.dns_scan.proofs.SymbolsRead.{same_names_join}
use Rattle.dns_entry_scanner.specs.RowScanner.{tokens_of}
use Rattle.dns_entry_scanner.specs.RowToken.{token_of}
use Rattle.dns_wire.proofs.Flat.{always_on_err}
use Rattle.dns_entry_scanner.proofs.row_scanner.scans.RowScannerScanner.scan_ascii_entry.Goals as goal

pub returns-in_default-clause-ok : goal.returns-in_default-clause-ok
returns-in_default-clause-ok g c =
    (entering_end IsWord _ _ _ c.loop-token.invariant.0 c.in_default.ensures.err.0, c.in_default.ensures.err.1)

pub returns-in_default-clause-names : goal.returns-in_default-clause-names
returns-in_default-clause-names g c = same_names_join _ _ _ c.loop-token.invariant.1 c.take_token.ensures.names

pub returns-in_default-word-clause-err : goal.returns-in_default-word-clause-err
returns-in_default-word-clause-err g c = λ short text entry.
    entering_none IsWord _ _ _ (token_of c.in-Ok.token) _ c.loop-token.invariant.0 c.in-Ok.ensures.ok c.in_default-word.ensures.none text entry

pub returns-in_default-word-clause-left : goal.returns-in_default-word-clause-left
returns-in_default-word-clause-left g c = ending_more _ _ _ _ c.loop-token.invariant.0.ending c.in-Ok.ensures.ok

pub returns-in_default-word-clause-names : goal.returns-in_default-word-clause-names
returns-in_default-word-clause-names g c = same_names_join _ _ _ c.loop-token.invariant.1 c.take_token.ensures.names

pub returns-in_err-push_str-clause-left : goal.returns-in_err-push_str-clause-left
returns-in_err-push_str-clause-left g c =
    always_on_err c.from_residual.result (ending_more _ _ _ _ c.loop-token.invariant.0.ending c.in-Ok.ensures.ok)

pub returns-in_err-push_str-clause-names : goal.returns-in_err-push_str-clause-names
returns-in_err-push_str-clause-names g c = same_names_join _ _ _ c.loop-token.invariant.1 c.take_token.ensures.names

pub loop-token-preserved : goal.loop-token-preserved
loop-token-preserved g c =
    let P : List ℕ → Type 0 = λ l. Entering IsWord (tokens_of c.args.self.now) (tokens_of c.take_token.new.self) l in (
      subst P (sym c.in_ok-push_str.ensures.bytes)
          (entering_more IsWord _ _ _ (token_of c.in-Ok.token) _ c.in-Some.word.now c.loop-token.invariant.0 c.in-Ok.ensures.ok c.in-Some.ensures.some),
      same_names_join _ _ _ c.loop-token.invariant.1 c.take_token.ensures.names,
    )
