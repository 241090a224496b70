use Rattle.std.proofs.Common.{[], refl, sym, arith}
use Rattle.dns_label.specs.Name.{IsName}
use Rattle.dns_wire.proofs.Flat.{flat-written}
use Rattle.dns_wire.proofs.Case.{wire_one}
use Rattle.dns_flat.proofs.root.Name+ref+slice+u8.root_ref.Goals as goal

pub from_octets_unchecked-requires : goal.from_octets_unchecked-requires
from_octets_unchecked-requires c =
    let is_name : IsName [] = record { labels = tt; short = omega arith } in
    flat-written _ [] is_name refl

pub returns : goal.returns
returns c = wire_one c.from_octets_unchecked.result [] (sym c.from_octets_unchecked.ensures)
