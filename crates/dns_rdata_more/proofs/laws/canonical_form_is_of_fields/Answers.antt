use Rattle.dns_rdata_more.proofs.Rows.{canonical_back}
use Rattle.dns_rdata_more.proofs.laws.canonical_form_is_of_fields.Goals as goal

pub returns : goal.returns
returns c = canonical_back
