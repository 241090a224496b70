use Rattle.std.proofs.Common.{[], ◌++◌, length, take, refl, sym, ◌∙◌, ap, arith, append_assoc, append-nil}
use Rattle.std.proofs.Math.Seq.{take-append_seam}
use Rattle.dns_scan.specs.CharStr.{string_wire}
use Rattle.dns_scan.specs.Token.{IsStringOnWire, Token}
use Rattle.dns_scan.proofs.Entries.{entering_end, entering_here, entering_more, entering_none, ending_more}
use Rattle.dns_scan.proofs.SymbolsRead.{same_names_join}
use Rattle.dns_entry_scanner.specs.RowToken.{token_of}
use Rattle.dns_wire.proofs.Flat.{always_on_err}
use Rattle.dns_entry_scanner.proofs.HandedOn.{handed_on}
use Rattle.dns_entry_scanner.proofs.row_scanner.RowScanner.append_strings.Goals as goal

pub loop-token-init : goal.loop-token-init
loop-token-init g c = ([], entering_here IsStringOnWire _, (λ text name. ((λ is. is), (λ is. is))), sym (append-nil c.args.octets.now.items))

pub returns-in_default-clause-ok : goal.returns-in_default-clause-ok
returns-in_default-clause-ok g c =
    let so_far = c.loop-token.invariant in
    (so_far.0, entering_end IsStringOnWire _ _ _ so_far.1 c.in_default.ensures.err.0, so_far.3)

pub returns-in_default-clause-names : goal.returns-in_default-clause-names
returns-in_default-clause-names g c = same_names_join _ _ _ c.loop-token.invariant.2 c.take_token.ensures.names

pub returns-in_default-clause-front : goal.returns-in_default-clause-front
returns-in_default-clause-front g c =
    let old = c.args.octets.now.items in ap (take (length old)) c.loop-token.invariant.3 ∙ take-append_seam old c.loop-token.invariant.0

pub loop-token-smaller : goal.loop-token-smaller
loop-token-smaller g c = omega (arith, ap (λ l. length {A = Token} l) c.in-Ok.ensures.ok)

pub loop-token-preserved : goal.loop-token-preserved
loop-token-preserved g c =
    let so_far = c.loop-token.invariant in
    let string = c.in_ok-append_string.ensures.ok in (
      so_far.0 ++ string_wire string.0,
      entering_more IsStringOnWire _ _ _ (token_of c.in-Ok.token) _ (string_wire string.0) so_far.1 c.in-Ok.ensures.ok (string.0, string.1, refl),
      same_names_join _ _ _ so_far.2 c.take_token.ensures.names,
      string.2 ∙ ap (λ l. l ++ string_wire string.0) so_far.3 ∙ append_assoc c.args.octets.now.items so_far.0 (string_wire string.0),
    )

pub returns-in_err-append_string-clause-err : goal.returns-in_err-append_string-clause-err
returns-in_err-append_string-clause-err g c =
    handed_on c.from_residual.result c.in_err-append_string.field-0.0 _ c.from_residual.ensures.1 (λ real wire is.
    entering_none IsStringOnWire _ _ _ (token_of c.in-Ok.token) _ c.loop-token.invariant.1 c.in-Ok.ensures.ok
    (λ piece is_piece. c.in_err-append_string.ensures.err real is_piece.0 is_piece.1) wire is)

pub returns-in_err-append_string-clause-end : goal.returns-in_err-append_string-clause-end
returns-in_err-append_string-clause-end g c =
    handed_on c.from_residual.result c.in_err-append_string.field-0.0 _ c.from_residual.ensures.1 c.in_err-append_string.ensures.end

pub returns-in_err-append_string-clause-left : goal.returns-in_err-append_string-clause-left
returns-in_err-append_string-clause-left g c =
    always_on_err c.from_residual.result (ending_more _ _ _ _ c.loop-token.invariant.1.ending c.in-Ok.ensures.ok)

pub returns-in_err-append_string-clause-names : goal.returns-in_err-append_string-clause-names
returns-in_err-append_string-clause-names g c = same_names_join _ _ _ c.loop-token.invariant.2 c.take_token.ensures.names

pub returns-in_err-append_string-clause-front : goal.returns-in_err-append_string-clause-front
returns-in_err-append_string-clause-front g c =
    let old = c.args.octets.now.items in
    ap (take (length old)) (c.in_err-append_string.ensures.same ∙ c.loop-token.invariant.3) ∙ take-append_seam old c.loop-token.invariant.0
