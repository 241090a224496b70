use Rattle.dns_header.proofs.Fields.{sets_ra}
use Rattle.dns_header.proofs.header.Header.set_ra.Goals as goal

pub returns : goal.returns
returns c = sets_ra c.args.self.now c.set_bit.new.self c.args.set c.set_bit.ensures
