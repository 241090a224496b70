use Rattle.std.proofs.Common.{◌<◌, arith, rules}
use Rattle.dns_wire.proofs.Wire.{length-wire_is}
use Rattle.dns_flat.proofs.relative.parts.RelativeNameToLabelIter.compose_len.Goals as goal

pub overflow_cast-result : goal.overflow_cast-result
overflow_cast-result g c =
    let small : c.len.result < 65536 = omega (arith, c.len.ensures.octets, c.len.ensures.name.short, length-wire_is c.args.self.now) in search rules
