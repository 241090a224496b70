use Rattle.std.proofs.Common.{sym}
use Rattle.dns_header.proofs.Fields.{sets_rcode}
use Rattle.dns_header.proofs.header.Header.set_rcode.Goals as goal

pub returns : goal.returns
returns c = sets_rcode c.self.inside.inner c.args.self.now c.with_rcode.result c.args.rcode c.self.view_is c.self.told (rw (sym c.to_int.ensures.value) c.with_rcode.ensures)
