use Rattle.std.proofs.Common.{length}
use Rattle.dns_fields_more.proofs.row.+are_fields.Given as goal

abbrev pub decreases-are_fields : goal.decreases-are_fields
decreases-are_fields l = length l.forms.now
