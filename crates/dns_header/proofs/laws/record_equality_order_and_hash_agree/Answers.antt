use Rattle.std.proofs.Common.{refl}
use Rattle.dns_header.specs.RecordOrder.{records_cmp}
use Rattle.dns_header.specs.RecordLaws.{records_ties, records_alike}
use Rattle.dns_header.proofs.laws.record_equality_order_and_hash_agree.Goals as goal

pub returns-clause-order : goal.returns-clause-order
returns-clause-order g c = records_ties g.N.ToName.name g.Data.PartialEq.eq g.Data.Ord.cmp g.met.Data.Ord.matches_eq c.args.record.now c.args.other.now

pub returns-clause-hash : goal.returns-clause-hash
returns-clause-hash g c =
    records_alike g.N.ToName.name g.Data.PartialEq.eq g.Data.Hash.hash_input g.met.Data.Hash.respects_eq c.args.record.now c.args.other.now

pub returns-clause-ttl_is_not_compared : goal.returns-clause-ttl_is_not_compared
unfolding records_cmp
returns-clause-ttl_is_not_compared g c = λ ttl. refl
