use Rattle.std.proofs.Common.{◌∙◌, [], sym, arith}
use Rattle.dns_label.specs.Name.{IsName}
use Rattle.dns_wire.proofs.Flat.{flat-written}
use Rattle.dns_wire.proofs.Case.{wire_one}
use Rattle.dns_flat.proofs.name.Name.root.Goals as goal

pub from_octets_unchecked-requires : goal.from_octets_unchecked-requires
from_octets_unchecked-requires g c =
    let is_name : IsName [] = record { labels = tt; short = omega arith } in
    flat-written _ [] is_name c.in_ok-octets_from.ensures.octets

pub returns-clause-root : goal.returns-clause-root
returns-clause-root g c = wire_one c.from_octets_unchecked.result [] (sym c.from_octets_unchecked.ensures ∙ c.in_ok-octets_from.ensures.octets)
