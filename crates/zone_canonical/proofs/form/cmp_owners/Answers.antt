use Rattle.std.proofs.Common.{sym}
use Rattle.zone_canonical.proofs.RecordForms.{same_owner}
use Rattle.zone_canonical.proofs.form.cmp_owners.Goals as goal

pub returns-then-eq : goal.returns-then-eq
returns-then-eq c =
    same_owner c.args.owner.now c.args.other.now c.as_slice.result.now c.as_slice-2.result.now c.as_slice.ensures.octets c.as_slice-2.ensures.octets
    (sym c.if-eq.ensures)
