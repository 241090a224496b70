use Rattle.dns_scan.specs.Token.{IsWord}
use Rattle.dns_scan.proofs.Tokens.{one_taken, not_taken}
use Rattle.dns_entry_scanner.specs.RowToken.{token_of}
use Rattle.dns_entry_scanner.proofs.row_scanner.scans.RowScannerScanner.scan_ascii_str.Goals as goal

pub returns-in_default-clause-left : goal.returns-in_default-clause-left
returns-in_default-clause-left g c = one_taken _ _ _ c.in_ok-token.ensures.ok

pub returns-in_default-clause-err : goal.returns-in_default-clause-err
returns-in_default-clause-err g c = λ short text left takes.
    absurd (not_taken (IsWord text) _ _ left (token_of c.in_ok-token.token) c.in_ok-token.ensures.ok (c.in_default.ensures.none text) takes)

pub returns-in-None-clause-left : goal.returns-in-None-clause-left
returns-in-None-clause-left g c = one_taken _ _ _ c.in_ok-token.ensures.ok
