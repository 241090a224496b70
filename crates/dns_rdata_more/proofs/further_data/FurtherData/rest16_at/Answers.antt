use Rattle.std.proofs.Common.{◌∙◌}
use Rattle.dns_rdata_more.proofs.Places.{rest16_there}
use Rattle.dns_rdata_more.proofs.further_data.FurtherData.rest16_at.Goals as goal

pub returns : goal.returns
returns g c = rest16_there (c.from_int.ensures ∙ c.number.ensures) (c.octets.ensures ∙ c.self.view_is) c.requires c.in-Rest.ensures.at c.in-Rest.ensures.kind
