use Rattle.dns_name.proofs.Intervals.{order_equal, equal_names}
use Rattle.dns_wire.proofs.LowNames.{low_octets, low_same}
use Rattle.dns_name.proofs.laws.name_equality_is_lowered_wire.Goals as goal

pub returns-clause-wire : goal.returns-clause-wire
returns-clause-wire c = λ name other is_name is_other. (low_octets name other is_name is_other, low_same name other is_name is_other)

pub returns-clause-order : goal.returns-clause-order
returns-clause-order c = λ name other. (order_equal name other, equal_names name other)
