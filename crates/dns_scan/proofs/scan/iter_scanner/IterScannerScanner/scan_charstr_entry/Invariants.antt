use Rattle.std.proofs.Common.{length}
use Rattle.dns_scan.specs.Token.{IsStringOnWire}
use Rattle.dns_scan.proofs.Entries.{Entering}
use Rattle.dns_scan.proofs.scan.iter_scanner.IterScannerScanner.scan_charstr_entry.Given as goal

abbrev pub invariant-loop-text : goal.invariant-loop-text
invariant-loop-text l = Entering IsStringOnWire l.fn.self l.self l.wire.items

abbrev pub decreases-loop-text : goal.decreases-loop-text
decreases-loop-text l = length l.self
