use Rattle.dns_wire.proofs.Flat.{always_on_err}
use Rattle.dns_scan.proofs.Tokens.{one_taken}
use Rattle.dns_entry_scanner.proofs.row_scanner.scans.RowScannerScanner.scan_charstr.Goals as goal

pub returns-clause-left : goal.returns-clause-left
returns-clause-left g c = always_on_err c.string_of.result (one_taken _ _ _ c.in_ok-token.ensures.ok)
