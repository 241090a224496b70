use Rattle.dns_header.proofs.Fields.{sets_z}
use Rattle.dns_header.proofs.header.Header.set_z.Goals as goal

pub returns : goal.returns
returns c = sets_z c.args.self.now c.set_bit.new.self c.args.set c.set_bit.ensures
