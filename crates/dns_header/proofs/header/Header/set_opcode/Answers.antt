use Rattle.std.proofs.Common.{◌%◌, sym}
use Rattle.dns_header.proofs.Fields.{sets_opcode}
use Rattle.dns_header.proofs.header.Header.set_opcode.Goals as goal

pub returns : goal.returns
returns c = sets_opcode c.self.inside.inner c.args.self.now c.with_opcode.result (c.args.opcode % 16) c.self.view_is c.self.told (rw (sym c.to_int.ensures) c.with_opcode.ensures)
