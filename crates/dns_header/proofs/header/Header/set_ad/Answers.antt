use Rattle.dns_header.proofs.Fields.{sets_ad}
use Rattle.dns_header.proofs.header.Header.set_ad.Goals as goal

pub returns : goal.returns
returns c = sets_ad c.args.self.now c.set_bit.new.self c.args.set c.set_bit.ensures
