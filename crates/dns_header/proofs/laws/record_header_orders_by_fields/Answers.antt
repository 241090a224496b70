use Rattle.std.specs.Cmp.{on_total}
use Rattle.dns_header.specs.Head.{labelled}
use Rattle.dns_header.specs.HeadLaws.{heads_alike, heads_ties, heads_total}
use Rattle.dns_header.proofs.laws.record_header_orders_by_fields.Goals as goal

pub returns-clause-total : goal.returns-clause-total
returns-clause-total g c = on_total (labelled g.N.ToName.name) heads_total

pub returns-clause-equality : goal.returns-clause-equality
returns-clause-equality g c = heads_ties (labelled g.N.ToName.name c.args.header.now) (labelled g.N.ToName.name c.args.other.now)

pub returns-clause-hash : goal.returns-clause-hash
returns-clause-hash g c = heads_alike (labelled g.N.ToName.name c.args.header.now) (labelled g.N.ToName.name c.args.other.now)
