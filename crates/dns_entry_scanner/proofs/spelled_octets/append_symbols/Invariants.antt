use Rattle.std.proofs.Common.{◌≡◌, ◌++◌, ℕ, List, length}
use Rattle.dns_scan.proofs.Texts.{Reading}
use Rattle.dns_entry_scanner.proofs.spelled_octets.append_symbols.Given as goal

abbrev pub invariant-loop-rest : goal.invariant-loop-rest
invariant-loop-rest l = (read : List ℕ) × Reading l.text l.rest read × (l.octets.items ≡ l.fn.octets.items ++ read)

abbrev pub decreases-loop-rest : goal.decreases-loop-rest
decreases-loop-rest l = length l.rest
