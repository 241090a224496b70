use Rattle.std.proofs.Common.{◌≡◌, ◌++◌, ℕ, List, length}
use Rattle.dns_scan.proofs.Texts.{Reading}
use Rattle.dns_service_parameters.proofs.scan.read_text.Given as goal

abbrev pub invariant-loop-rest : goal.invariant-loop-rest
invariant-loop-rest g l = (done : List ℕ) × Reading l.text l.rest done × (l.octets.items ≡ l.fn.octets.items ++ done)

abbrev pub decreases-loop-rest : goal.decreases-loop-rest
decreases-loop-rest g l = length l.rest
