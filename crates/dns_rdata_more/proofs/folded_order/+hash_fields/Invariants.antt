use Rattle.std.proofs.Common.{length}
use Rattle.dns_rdata_more.proofs.folded_order.+hash_fields.Given as goal

abbrev pub decreases-hash_fields : goal.decreases-hash_fields
decreases-hash_fields g l = length l.forms.now
