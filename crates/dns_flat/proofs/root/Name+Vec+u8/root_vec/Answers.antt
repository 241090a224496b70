use Rattle.std.proofs.Common.{◌∙◌, [], sym, arith}
use Rattle.dns_label.specs.Name.{IsName}
use Rattle.dns_wire.proofs.Flat.{flat-written}
use Rattle.dns_wire.proofs.Case.{wire_one}
use Rattle.dns_flat.proofs.root.Name+Vec+u8.root_vec.Goals as goal

pub from_octets_unchecked-requires : goal.from_octets_unchecked-requires
from_octets_unchecked-requires c =
    let is_name : IsName [] = record { labels = tt; short = omega arith } in
    flat-written _ [] is_name c.in_ok-from_slice.ensures.items

pub returns : goal.returns
returns c = wire_one c.from_octets_unchecked.result [] (sym c.from_octets_unchecked.ensures ∙ c.in_ok-from_slice.ensures.items)
