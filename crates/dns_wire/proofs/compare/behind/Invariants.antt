use Rattle.std.proofs.Common.{◌≡◌, drop}
use Rattle.dns_wire.proofs.compare.behind.Given as goal

abbrev pub invariant-loop : goal.invariant-loop
invariant-loop g l = l.labels ≡ drop l.counter l.fn.labels
