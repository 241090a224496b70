use Rattle.std.proofs.Common.{refl}
use Rattle.dns_wire.proofs.Skipping.{skips-reads, skips-one}
use Rattle.dns_name.proofs.laws.skip_stops_where_parse_stops.Goals as goal

pub returns-clause-stops : goal.returns-clause-stops
returns-clause-stops c = λ message place next name reads. skips-reads reads

pub returns-clause-once : goal.returns-clause-once
returns-clause-once c = λ message room place next end one other. skips-one one other refl
