use Rattle.dns_rdata_more.proofs.Rows.{field_one}
use Rattle.dns_rdata_more.proofs.laws.one_field_is_at_a_place.Goals as goal

pub returns : goal.returns
returns c = field_one
