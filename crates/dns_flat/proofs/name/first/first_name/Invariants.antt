use Rattle.std.proofs.Common.{◌-◌, length}
use Rattle.dns_flat.proofs.FirstNames.{Walked}
use Rattle.dns_flat.proofs.name.first.first_name.Given as goal

abbrev pub invariant-loop-end : goal.invariant-loop-end
invariant-loop-end l = Walked l.octets l.end

abbrev pub decreases-loop-end : goal.decreases-loop-end
decreases-loop-end l = length l.octets - l.end
