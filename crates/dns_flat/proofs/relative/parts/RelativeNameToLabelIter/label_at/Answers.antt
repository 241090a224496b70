use Rattle.std.proofs.Common.{◌+◌, arith, [], ◌∷◌, length, length-append, sym, ◌∙◌, ap, drop, ℕ}
use Rattle.dns_wire.specs.FlatLabels.{flat_labels}
use Rattle.dns_flat.proofs.PartForms.{rest_of, rest_next}
use Rattle.dns_flat.proofs.Standing.{front_item, no_item}
use Rattle.dns_wire.proofs.Wire.{few_labels}
use Rattle.dns_flat.proofs.relative.parts.RelativeNameToLabelIter.label_at.Goals as goal

pub split_at-requires : goal.split_at-requires
split_at-requires g c =
    let here = rest_of c.as_slice.ensures.name c.requires c.in_ok-place.was (ap (drop c.in_ok-place.place) c.as_slice.ensures.octets) in
    omega (arith, here.inside, ap (length {A = ℕ}) c.as_slice.ensures.octets)

pub split_first-requires : goal.split_first-requires
split_first-requires g c =
    (rest_of c.as_slice.ensures.name c.requires c.in_ok-place.was (c.split_at.ensures.back ∙ ap (drop c.in_ok-place.place) c.as_slice.ensures.octets)).are

pub returns-in_err-label-clause-label : goal.returns-in_err-label-clause-label
returns-in_err-label-clause-label g c =
    let here = rest_of c.as_slice.ensures.name c.requires c.in_ok-place.was (c.split_at.ensures.back ∙ ap (drop c.in_ok-place.place) c.as_slice.ensures.octets) in
    rw c.from_residual-in_err-label.ensures (no_item c.args.self.now c.args._index (sym here.flat ∙ c.in_err-label.ensures.none))

pub returns-in_err-label-clause-few : goal.returns-in_err-label-clause-few
returns-in_err-label-clause-few g c =
    omega (arith, few_labels c.args.self.now c.as_slice.ensures.name, length-append c.args.self.now ([] ∷ []))

pub returns-clause-label : goal.returns-clause-label
returns-clause-label g c =
    let here = rest_of c.as_slice.ensures.name c.requires c.in_ok-place.was (c.split_at.ensures.back ∙ ap (drop c.in_ok-place.place) c.as_slice.ensures.octets) in
    front_item c.args.self.now c.args._index c.in_ok-label.label.octets.now (flat_labels c.in_ok-label.field-0-1.now)
    (sym here.flat ∙ c.in_ok-label.ensures.some)

pub returns-clause-next : goal.returns-clause-next
returns-clause-next g c =
    let here = rest_of c.as_slice.ensures.name c.requires c.in_ok-place.was (c.split_at.ensures.back ∙ ap (drop c.in_ok-place.place) c.as_slice.ensures.octets) in
    rest_next c.in_ok-label.field-0-1.now (c.in_ok-place.place + 1 + c.len.result) here c.in_ok-label.ensures.some (ap (λ (n : ℕ). c.in_ok-place.place + 1 + n) c.len.ensures)

pub returns-clause-few : goal.returns-clause-few
returns-clause-few g c =
    omega (arith, few_labels c.args.self.now c.as_slice.ensures.name, length-append c.args.self.now ([] ∷ []))
