use Rattle.dns_zonefile.proofs.Forms.{value_given}
use Rattle.dns_zonefile.proofs.zonefile.Zonefile.next_entry.Goals as goal

pub returns-clause-gives : goal.returns-clause-gives
returns-clause-gives c = λ unrefused. value_given _ c.next_given.result (c.next_given.ensures.gives unrefused)
