use Rattle.std.proofs.Common.{◌≡◌, sym, ◌∙◌, ap, [], length, refl, arith, List, ℕ}
use Rattle.dns_label.specs.Name.{labels_wire, with_root}
use Rattle.dns_wire.proofs.Case.{wire_one}
use Rattle.dns_flat.proofs.Constants.{no_labels_name}
use Rattle.dns_wire.proofs.Flat.{flat-written}
use Rattle.dns_wire.proofs.Wire.{length-wire_is}
use Rattle.dns_wire.specs.Chain.{before_root}
use Rattle.dns_flat.proofs.to_relative_name.ToRelativeName.chain_root.Goals as goal

pub from_octets_unchecked-requires : goal.from_octets_unchecked-requires
from_octets_unchecked-requires g c = flat-written _ [] no_labels_name c.as_slice.ensures

pub unreachable-requires : goal.unreachable-requires
unreachable-requires g c =
    let root : c.from_octets_unchecked.result ≡ [] = wire_one _ [] (sym c.from_octets_unchecked.ensures ∙ c.as_slice.ensures) in
    let none : length (labels_wire (before_root (with_root c.from_octets_unchecked.result))) ≡ 0 =
    ap (λ (n : List (List ℕ)). length (labels_wire (before_root (with_root n)))) root in
    let over = c.in-Err.ensures.long.0 refl in
    omega (arith, c.as_flat_slice-flat.ensures.name.short, length-wire_is (g.Self.ToLabelIter.labels c.args.self))

pub returns-clause-root : goal.returns-clause-root
returns-clause-root g c = c.in-Ok.ensures.ok.1 ∙ wire_one _ [] (sym c.from_octets_unchecked.ensures ∙ c.as_slice.ensures)
