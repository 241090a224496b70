use Rattle.std.proofs.Common.{◌≡◌, drop}
use Rattle.dns_wire.specs.Order.{label_order}
use Rattle.dns_wire.proofs.compare.cmp_octets.Given as goal

abbrev pub invariant-loop-i : goal.invariant-loop-i
invariant-loop-i l = label_order l.octets l.others ≡ label_order (drop l.i l.octets) (drop l.i l.others)
