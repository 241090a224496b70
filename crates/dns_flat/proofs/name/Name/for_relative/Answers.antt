use Rattle.std.proofs.Common.{arith}
use Rattle.dns_flat.proofs.NameParts.{rootless_written, rootless_is, some_octet}
use Rattle.dns_flat.proofs.name.Name.for_relative.Goals as goal

pub overflow_sub-octets : goal.overflow_sub-octets
overflow_sub-octets g c = some_octet c.args.self.now c.as_slice-octets.ensures.octets

pub of_octets-requires : goal.of_octets-requires
of_octets-requires g c =
    let some = some_octet c.args.self.now c.as_slice-octets.ensures.octets in
    rootless_written c.args.self.now _ c.as_slice-octets.ensures.name c.as_slice-octets.ensures.octets (omega arith) c.split_at.ensures.front

pub returns : goal.returns
returns g c =
    let some = some_octet c.args.self.now c.as_slice-octets.ensures.octets in
    rootless_is c.args.self.now _ c.as_slice-octets.ensures.octets (omega arith) c.split_at.ensures.front c.of_octets.ensures
