use Rattle.std.proofs.Common.{ℕ, List, subst}
use Rattle.std.specs.Str.{IsUtf8}
use Rattle.std.proofs.lemmas.Result.{err_from_is_err_and}
use Rattle.dns_wire.proofs.Flat.{always_on_err}
use Rattle.dns_scan.specs.Token.{SpellsOctets}
use Rattle.dns_scan.proofs.TextsBack.{spells_one}
use Rattle.dns_scan.proofs.Tokens.{one_taken, not_taken}
use Rattle.dns_entry_scanner.specs.RowToken.{token_of}
use Rattle.dns_entry_scanner.proofs.row_scanner.scans.RowScannerScanner.scan_string.Goals as goal

pub returns-in_err-octets-clause-left : goal.returns-in_err-octets-clause-left
returns-in_err-octets-clause-left g c = always_on_err c.from_residual-in_err-octets.result (one_taken _ _ _ c.in_ok-token.ensures.ok)

pub returns-in_err-octets-clause-err : goal.returns-in_err-octets-clause-err
returns-in_err-octets-clause-err g c =
    let p = err_from_is_err_and c.from_residual-in_err-octets.result c.from_residual-in_err-octets.ensures.1 in
    rw (p.1, p.2)
    (λ short text left utf8.
    not_taken (SpellsOctets text) _ _ left (token_of c.in_ok-token.token) c.in_ok-token.ensures.ok (c.in_err-octets.ensures.err short text))

pub returns-clause-left : goal.returns-clause-left
returns-clause-left g c = one_taken _ _ _ c.in_ok-token.ensures.ok

pub returns-clause-err : goal.returns-clause-err
returns-clause-err g c = λ short text left utf8.
    not_taken (SpellsOctets text) _ _ left (token_of c.in_ok-token.token) c.in_ok-token.ensures.ok
    (λ spells.
    let same = spells_one _ c.in_ok-octets.octets.items text c.in_ok-octets.ensures.ok spells in
    let P : List ℕ → Type 0 = λ l. IsUtf8 l in
    let whole = subst P same utf8 in
    let bad = c.in-Err.ensures.succeeds whole in cc)
