use Rattle.std.proofs.Common.{◌++◌, sym, ◌∙◌, ap}
use Rattle.dns_label.specs.Name.{labels_wire}
use Rattle.dns_wire.proofs.Wire.{wire_step, wire_made}
use Rattle.dns_wire.proofs.Case.{wire_one}
use Rattle.dns_wire.proofs.Flat.{flat-written}
use Rattle.dns_wire.proofs.Readable.{read-name}
use Rattle.dns_name.proofs.parsed.ParsedNameToName.to_vec.Goals as goal

pub loop-label-init : goal.loop-label-init
loop-label-init g c =
    ap labels_wire (sym c.iter-label-items.ensures.labels ∙ sym c.into_iter-label-iterator.ensures.into_iter_gives)
    ∙ ap (λ l. l ++ labels_wire c.into_iter-label-iterator.result) (sym c.in_ok-octets.ensures.items)

pub loop-label-preserved : goal.loop-label-preserved
loop-label-preserved g c =
    wire_step _ c.loop-label.octets.items c.push.new.self.items c.extend_from_slice.new.self.items c.in-Some.label.octets.now
    c.loop-label.label-iterator c.next.new.self c.len.result
    c.loop-label.invariant c.in-Some.ensures.steps c.in_ok-push.ensures.items c.len.ensures
    (c.in_ok-extend_from_slice.ensures.items ∙ ap (λ l. c.push.new.self.items ++ l) c.as_slice.ensures)

pub from_octets_unchecked-requires : goal.from_octets_unchecked-requires
from_octets_unchecked-requires g c =
    flat-written _ _ (read-name _ _ c.args.self.now.reads)
    (wire_made c.loop-label.octets.items c.loop-label.label-iterator _ c.loop-label.invariant c.in-None.ensures.steps.0)

pub returns : goal.returns
returns g c =
    wire_one _ _ (sym c.from_octets_unchecked.ensures
    ∙ wire_made c.loop-label.octets.items c.loop-label.label-iterator _ c.loop-label.invariant c.in-None.ensures.steps.0)
