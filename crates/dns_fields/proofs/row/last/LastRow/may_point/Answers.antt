use Rattle.std.proofs.Common.{sym, ap, false, ◌||◌}
use Rattle.dns_fields.proofs.row.last.LastRow.may_point.Goals as goal

pub returns : goal.returns
returns g c = sym (ap (λ b. b || false) g.met.V.LastValue.stays)
