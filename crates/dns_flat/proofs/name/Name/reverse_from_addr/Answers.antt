use Rattle.std.proofs.Common.{◌≤◌, ℕ, length, ◌∙◌, sym, ap, arith, length-append}
use Rattle.std.specs.Prelude.{codes}
use Rattle.dns_label.specs.Composed.{label_wire}
use Rattle.dns_flat.specs.Reverse.{reverse_name}
use Rattle.dns_wire.proofs.Flat.{flat-written}
use Rattle.dns_wire.proofs.Case.{wire_one}
use Rattle.dns_flat.proofs.Reverses.{reverse_written}
use Rattle.dns_flat.proofs.name.Name.reverse_from_addr.Goals as goal

pub from_octets_unchecked-requires : goal.from_octets_unchecked-requires
from_octets_unchecked-requires g c =
    let few : length c.push.new.self.items ≤ 255 =
    omega (arith, c.zone_wire-wire.ensures.few, ap (length {A = ℕ}) c.put_label.ensures, length-append c.zone_wire-wire.result.items (label_wire (codes "arpa")), c.push.ensures.len) in
    let made = reverse_written _ _ c.push.new.self.items c.args.addr c.zone_wire-wire.ensures.labels c.put_label.ensures c.push.ensures.items few c.zone_wire-wire.ensures.each in
    flat-written _ (reverse_name c.args.addr) made.0 (c.in_ok-octets_from.ensures.octets ∙ c.as_slice.ensures.value ∙ made.1)

pub returns-clause-ok : goal.returns-clause-ok
returns-clause-ok g c =
    let few : length c.push.new.self.items ≤ 255 =
    omega (arith, c.zone_wire-wire.ensures.few, ap (length {A = ℕ}) c.put_label.ensures, length-append c.zone_wire-wire.result.items (label_wire (codes "arpa")), c.push.ensures.len) in
    let made = reverse_written _ _ c.push.new.self.items c.args.addr c.zone_wire-wire.ensures.labels c.put_label.ensures c.push.ensures.items few c.zone_wire-wire.ensures.each in
    wire_one c.from_octets_unchecked.result (reverse_name c.args.addr) (sym c.from_octets_unchecked.ensures ∙ c.in_ok-octets_from.ensures.octets ∙ c.as_slice.ensures.value ∙ made.1)
