use Rattle.dns_header.proofs.Fields.{sets_cd}
use Rattle.dns_header.proofs.header.Header.set_cd.Goals as goal

pub returns : goal.returns
returns c = sets_cd c.args.self.now c.set_bit.new.self c.args.set c.set_bit.ensures
