use Rattle.std.proofs.Common.{◌≡◌, ◌++◌, ℕ, List, length}
use Rattle.dns_scan.specs.Token.{IsStringOnWire, SameNames}
use Rattle.dns_scan.proofs.Entries.{Entering}
use Rattle.dns_entry_scanner.specs.RowScanner.{names_of, tokens_of}
use Rattle.dns_entry_scanner.proofs.row_scanner.RowScanner.append_strings.Given as goal

abbrev pub invariant-loop-token : goal.invariant-loop-token
invariant-loop-token g l =
    (wire : List ℕ) × Entering IsStringOnWire (tokens_of l.fn.self) (tokens_of l.self) wire × SameNames (names_of l.fn.self) (names_of l.self)
    × (l.octets.items ≡ l.fn.octets.items ++ wire)

abbrev pub decreases-loop-token : goal.decreases-loop-token
decreases-loop-token g l = length (tokens_of l.self)
