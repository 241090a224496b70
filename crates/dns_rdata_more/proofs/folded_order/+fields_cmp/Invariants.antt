use Rattle.std.proofs.Common.{length}
use Rattle.dns_rdata_more.proofs.folded_order.+fields_cmp.Given as goal

abbrev pub decreases-fields_cmp : goal.decreases-fields_cmp
decreases-fields_cmp l = length l.forms.now
