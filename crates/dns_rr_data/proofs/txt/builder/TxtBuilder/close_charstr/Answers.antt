use Rattle.dns_rr_data.proofs.Builds.{stands_ended, stands_here, stands_is, stands_seen}
use Rattle.dns_rr_data.proofs.txt.builder.TxtBuilder.close_charstr.Goals as goal

pub invariant_of-self : goal.invariant_of-self
invariant_of-self g c = stands_here _ _ _ (stands_ended c.self.invariant)

pub returns : goal.returns
returns g c = stands_is _ _ _ (stands_ended (stands_seen c.self.view_is c.self.invariant))
