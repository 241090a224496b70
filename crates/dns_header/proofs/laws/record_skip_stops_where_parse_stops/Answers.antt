use Rattle.std.proofs.Common.{◌+◌, ◌∙◌}
use Rattle.dns_wire.proofs.Skipping.{skips-reads}
use Rattle.dns_header.proofs.laws.record_skip_stops_where_parse_stops.Goals as goal

pub returns : goal.returns
returns c = λ message place data_place next head whole. record {
  behind = whole.reads.behind;
  owner = skips-reads whole.reads.owner;
  whole = whole.reads.whole;
  ends = whole.ends ∙ (λ i. whole.reads.ends i + whole.reads.data_len i);
  within = whole.within;
}
