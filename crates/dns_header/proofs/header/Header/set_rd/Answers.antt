use Rattle.dns_header.proofs.Fields.{sets_rd}
use Rattle.dns_header.proofs.header.Header.set_rd.Goals as goal

pub returns : goal.returns
returns c = sets_rd c.args.self.now c.set_bit.new.self c.args.set c.set_bit.ensures
