use Rattle.std.proofs.Common.{◌∙◌, ap}
use Rattle.dns_wire.specs.Built.{ended}
use Rattle.dns_wire.proofs.Builds.{stands_ended, stands_here, stands_is}
use Rattle.dns_flat.proofs.builder.NameBuilder.end_label.Goals as goal

pub invariant_of-self : goal.invariant_of-self
invariant_of-self g c = stands_here _ _ _ (stands_ended _ _ _ c.self.invariant)

pub returns : goal.returns
returns g c = stands_is _ _ _ (stands_ended _ _ _ c.self.invariant) ∙ ap ended c.self.view_is
