use Rattle.std.proofs.Common.{refl}
use Rattle.dns_octets.proofs.Grows.{GrowsTo-same}
use Rattle.dns_fields.proofs.row.UnitRow.compose_canonical_fields.Goals as goal

pub returns-clause-grows : goal.returns-clause-grows
returns-clause-grows g c = GrowsTo-same _ _ _ _ refl refl
