use Rattle.std.proofs.Common.{refl}
use Rattle.dns_header.specs.RecordOrder.{records_cmp, canonical_records_cmp}
use Rattle.dns_header.specs.RecordLaws.{records_total}
use Rattle.dns_header.proofs.laws.record_orders_by_owner_class_data.Goals as goal

pub returns-clause-total : goal.returns-clause-total
returns-clause-total g c = records_total g.N.ToName.name g.met.Data.Ord.total

pub returns-clause-order : goal.returns-clause-order
unfolding records_cmp
returns-clause-order g c = refl

pub returns-clause-canonical : goal.returns-clause-canonical
unfolding canonical_records_cmp
returns-clause-canonical g c = refl
