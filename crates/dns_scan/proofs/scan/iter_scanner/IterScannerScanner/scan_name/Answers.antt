use Rattle.dns_name.proofs.Flat.{always_on_err}
use Rattle.dns_scan.proofs.Tokens.{one_taken}
use Rattle.dns_scan.proofs.scan.iter_scanner.IterScannerScanner.scan_name.Goals as goal

pub returns-clause-left : goal.returns-clause-left
returns-clause-left c = always_on_err c.match-vec_from_str.result (one_taken _ _ _ c.in_ok-text.ensures.ok)
