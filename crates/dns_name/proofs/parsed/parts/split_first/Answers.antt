use Rattle.std.proofs.Common.{◌≡◌, ◌∷◌, ap, arith, ◌∙◌}
use Rattle.dns_label.specs.Labels.{labels_at}
use Rattle.dns_wire.specs.Parsed.{labels_left}
use Rattle.dns_wire.proofs.Wire.{last_same, wire_more}
use Rattle.dns_name.proofs.parsed.parts.split_first.Goals as goal
use Rattle.dns_name.proofs.parsed.parts.split_first.Goals.{After-len}

first_is : (c : After-len) → labels_at c.args.octets.now c.args.start ≡ c.split_label-next.result.0.octets.now ∷ labels_at c.args.octets.now c.in_ok-next.next
first_is c =
    (last_same (labels_at c.args.octets.now c.args.start) (c.split_label-next.result.0.octets.now ∷ labels_at c.args.octets.now c.in_ok-next.next) _ _
    (c.split_label-next.ensures.labels ∙ ap (λ left. c.split_label-next.result.0.octets.now ∷ labels_left c.args.octets.now left) c.in_ok-next.was)).0

pub overflow_sub-result : goal.overflow_sub-result
overflow_sub-result c =
    let is = first_is c in
    let more = wire_more is in
    omega (arith, c.len.ensures, c.requires.counted)

pub returns-clause-some : goal.returns-clause-some
returns-clause-some c = first_is c

pub returns-clause-counted : goal.returns-clause-counted
returns-clause-counted c =
    let is = first_is c in
    let more = wire_more is in
    omega (arith, c.len.ensures, c.requires.counted)
