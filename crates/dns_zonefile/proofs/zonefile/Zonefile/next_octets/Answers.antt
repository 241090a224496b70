use Rattle.dns_zonefile.proofs.Forms.{handed_on}
use Rattle.dns_zonefile.proofs.zonefile.Zonefile.next_octets.Goals as goal

pub returns-clause-gives : goal.returns-clause-gives
returns-clause-gives c = λ unrefused.
    let gives = c.next_given.ensures.gives unrefused in (gives.given, gives.is, handed_on gives.so)
