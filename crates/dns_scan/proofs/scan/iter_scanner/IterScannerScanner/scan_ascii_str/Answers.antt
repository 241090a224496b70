use Rattle.dns_scan.proofs.Tokens.{one_taken}
use Rattle.dns_scan.proofs.scan.iter_scanner.IterScannerScanner.scan_ascii_str.Goals as goal

pub returns-then-not-are_plain-clause-left : goal.returns-then-not-are_plain-clause-left
returns-then-not-are_plain-clause-left g c = one_taken _ _ _ c.in_ok-text.ensures.ok

pub returns-in-None-clause-left : goal.returns-in-None-clause-left
returns-in-None-clause-left g c = one_taken _ _ _ c.in_ok-text.ensures.ok
