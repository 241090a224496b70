use Rattle.dns_name.proofs.Growth.{GrowsTo-trans}
use Rattle.dns_fields.proofs.row.Tuple2Row.compose_canonical_fields.Goals as goal

pub returns-clause-grows : goal.returns-clause-grows
returns-clause-grows g c = GrowsTo-trans c.compose_canonical_field.ensures.grows c.compose_canonical_fields.ensures.grows
