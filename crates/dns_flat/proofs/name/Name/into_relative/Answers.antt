use Rattle.std.proofs.Common.{arith, length, ℕ, ap}
use Rattle.dns_flat.proofs.NameParts.{rootless_written, rootless_is}
use Rattle.dns_wire.proofs.Wire.{length-wire_is}
use Rattle.dns_flat.proofs.name.Name.into_relative.Goals as goal

pub overflow_sub-len : goal.overflow_sub-len
overflow_sub-len g c = omega (arith, c.len-len.ensures.octets, length-wire_is c.args.self)

pub of_octets-requires : goal.of_octets-requires
of_octets-requires g c =
    rootless_written c.args.self _ c.len-len.ensures.name c.into_octets-octets.ensures
    (omega (arith, c.len-len.ensures.octets, length-wire_is c.args.self, ap (length {A = ℕ}) c.into_octets-octets.ensures)) c.truncate.ensures.octets

pub returns : goal.returns
returns g c =
    rootless_is c.args.self _ c.into_octets-octets.ensures
    (omega (arith, c.len-len.ensures.octets, length-wire_is c.args.self, ap (length {A = ℕ}) c.into_octets-octets.ensures)) c.truncate.ensures.octets
    c.of_octets.ensures
