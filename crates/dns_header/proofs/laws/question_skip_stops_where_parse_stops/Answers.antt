use Rattle.dns_wire.proofs.Skipping.{skips-reads}
use Rattle.dns_header.proofs.laws.question_skip_stops_where_parse_stops.Goals as goal

pub returns : goal.returns
returns c = λ message place next question reads. record {
  behind = reads.behind;
  name = skips-reads reads.name;
  whole = reads.whole;
  ends = reads.ends;
}
