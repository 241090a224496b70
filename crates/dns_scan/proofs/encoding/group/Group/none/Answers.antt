use Rattle.dns_scan.proofs.Decoded.{read_none}
use Rattle.dns_scan.proofs.encoding.group.Group.none.Goals as goal

pub returns : goal.returns
returns c = λ base. let waiting = c.none.ensures in read_none base _ (cc)
