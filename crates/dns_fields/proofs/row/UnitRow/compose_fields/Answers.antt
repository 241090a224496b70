use Rattle.std.proofs.Common.{refl}
use Rattle.dns_name.specs.Page.{write}
use Rattle.dns_octets.proofs.Grows.{GrowsTo-same}
use Rattle.dns_fields.proofs.row.UnitRow.compose_fields.Goals as goal

pub returns-clause-ok : goal.returns-clause-ok
unfolding write
returns-clause-ok g c = refl

pub returns-clause-grows : goal.returns-clause-grows
returns-clause-grows g c = GrowsTo-same _ _ _ _ refl refl
