use Rattle.std.proofs.Common.{length}
use Rattle.dns_fields_more.proofs.canonical.+lower_fields.Given as goal

abbrev pub decreases-lower_fields : goal.decreases-lower_fields
decreases-lower_fields l = length l.forms.now
