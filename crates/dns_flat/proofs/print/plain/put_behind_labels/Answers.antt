use Rattle.std.proofs.Common.{◌≡◌, length, ap, arith}
use Rattle.dns_label.specs.Labels.{labels_at}
use Rattle.dns_label.specs.Name.{wire}
use Rattle.dns_flat.proofs.PlainNames.{marking_none, marking_on, marking_all, wire_some}
use Rattle.dns_flat.proofs.print.plain.put_behind_labels.Goals as goal

pub overflow_sub-last : goal.overflow_sub-last
overflow_sub-last c =
    let octets = c.args.octets.now in
    let whole : length octets ≡ length (wire (labels_at octets 0)) = ap length c.requires.whole in
    omega (arith, whole, wire_some (labels_at octets 0))

pub bounds-octets-0 : goal.bounds-octets-0
bounds-octets-0 c =
    let octets = c.args.octets.now in
    let whole : length octets ≡ length (wire (labels_at octets 0)) = ap length c.requires.whole in
    omega (arith, whole, wire_some (labels_at octets 0))

pub loop-end-init : goal.loop-end-init
loop-end-init c =
    let octets = c.args.octets.now in
    let whole : length octets ≡ length (wire (labels_at octets 0)) = ap length c.requires.whole in
    marking_none _ _ _ _ _ c.requires.whole (omega (arith, whole, c.requires.is_name.short)) c.from-end.ensures

pub loop-end-preserved : goal.loop-end-preserved
loop-end-preserved c = marking_on c.from.result c.loop-end.invariant (omega arith) c.from.ensures

pub returns : goal.returns
returns c = marking_all c.loop-end.invariant (omega arith)
