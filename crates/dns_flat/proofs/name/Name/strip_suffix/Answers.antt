use Rattle.std.proofs.Common.{◌≡◌, ◌+◌, List, ℕ, length, arith, refl, ap, ◌∙◌}
use Rattle.dns_label.specs.Name.{labels_wire, with_root}
use Rattle.dns_flat.proofs.PartForms.{stripped, strip_start, strip_within, strip_rest}
use Rattle.dns_wire.proofs.Wire.{length-wire_is, labels_wire-with_root}
use Rattle.dns_flat.proofs.name.Name.strip_suffix.Goals as goal

-- the number of octets of the other name
base_len : {labels : List (List ℕ)} (name : List (List ℕ)) (count : ℕ) → count ≡ length (labels_wire labels) → labels ≡ with_root name
    → count ≡ length (labels_wire name) + 1
base_len name count is absolute =
    is ∙ ap (λ (l : List (List ℕ)). length (labels_wire l)) absolute ∙ ap (length {A = ℕ}) (labels_wire-with_root name) ∙ length-wire_is name

pub overflow_sub-len : goal.overflow_sub-len
overflow_sub-len g c =
    let strip = stripped c.args.self (g.N.ToName.name c.args.base.now) (c.if-not-ends_with.ensures.0 refl) in
    let count = base_len (g.N.ToName.name c.args.base.now) c.compose_len.result c.compose_len.ensures (g.met.N.ToName.is_absolute c.args.base.now) in
    omega (arith, strip_within strip, c.from.ensures, c.len.ensures.octets, length-wire_is c.args.self)

pub truncate-requires : goal.truncate-requires
truncate-requires g c =
    let strip = stripped c.args.self (g.N.ToName.name c.args.base.now) (c.if-not-ends_with.ensures.0 refl) in
    let count = base_len (g.N.ToName.name c.args.base.now) c.compose_len.result c.compose_len.ensures (g.met.N.ToName.is_absolute c.args.base.now) in
    strip_start _ strip (omega (arith, strip_within strip, c.from.ensures, c.len.ensures.octets, length-wire_is c.args.self))

pub returns-clause-ok : goal.returns-clause-ok
returns-clause-ok g c =
    let strip = stripped c.args.self (g.N.ToName.name c.args.base.now) (c.if-not-ends_with.ensures.0 refl) in
    let count = base_len (g.N.ToName.name c.args.base.now) c.compose_len.result c.compose_len.ensures (g.met.N.ToName.is_absolute c.args.base.now) in
    strip_rest strip (omega (arith, strip_within strip, c.from.ensures, c.len.ensures.octets, length-wire_is c.args.self)) c.truncate.ensures
