use Rattle.dns_header.proofs.Fields.{sets_tc}
use Rattle.dns_header.proofs.header.Header.set_tc.Goals as goal

pub returns : goal.returns
returns c = sets_tc c.args.self.now c.set_bit.new.self c.args.set c.set_bit.ensures
