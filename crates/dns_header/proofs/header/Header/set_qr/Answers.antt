use Rattle.dns_header.proofs.Fields.{sets_qr}
use Rattle.dns_header.proofs.header.Header.set_qr.Goals as goal

pub returns : goal.returns
returns c = sets_qr c.args.self.now c.set_bit.new.self c.args.set c.set_bit.ensures
