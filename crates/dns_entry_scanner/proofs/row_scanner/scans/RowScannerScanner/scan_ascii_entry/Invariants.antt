use Rattle.std.proofs.Common.{length}
use Rattle.std.specs.Prelude.{string_bytes}
use Rattle.dns_scan.specs.Token.{IsWord, SameNames}
use Rattle.dns_scan.proofs.Entries.{Entering}
use Rattle.dns_entry_scanner.specs.RowScanner.{names_of, tokens_of}
use Rattle.dns_entry_scanner.proofs.row_scanner.scans.RowScannerScanner.scan_ascii_entry.Given as goal

abbrev pub invariant-loop-token : goal.invariant-loop-token
invariant-loop-token g l =
    Entering IsWord (tokens_of l.fn.self) (tokens_of l.self) (string_bytes l.joined) × SameNames (names_of l.fn.self) (names_of l.self)

abbrev pub decreases-loop-token : goal.decreases-loop-token
decreases-loop-token g l = length (tokens_of l.self)
