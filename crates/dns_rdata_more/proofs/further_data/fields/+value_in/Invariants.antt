use Rattle.std.proofs.Common.{length}
use Rattle.dns_rdata_more.proofs.further_data.fields.+value_in.Given as goal

abbrev pub decreases-value_in : goal.decreases-value_in
decreases-value_in l = length l.forms.now
