use Rattle.std.proofs.Common.{length}
use Rattle.std.specs.Prelude.{string_bytes}
use Rattle.dns_scan.specs.Token.{IsWord}
use Rattle.dns_scan.proofs.Entries.{Entering}
use Rattle.dns_scan.proofs.scan.iter_scanner.IterScannerScanner.scan_ascii_entry.Given as goal

abbrev pub invariant-loop-text : goal.invariant-loop-text
invariant-loop-text l = Entering IsWord l.fn.self l.self (string_bytes l.joined)

abbrev pub decreases-loop-text : goal.decreases-loop-text
decreases-loop-text l = length l.self
