use Rattle.dns_header.proofs.Fields.{sets_aa}
use Rattle.dns_header.proofs.header.Header.set_aa.Goals as goal

pub returns : goal.returns
returns c = sets_aa c.args.self.now c.set_bit.new.self c.args.set c.set_bit.ensures
