use Rattle.std.proofs.Common.{◌∙◌, ap, length, ℕ, List, arith, [], ◌∷◌, length-append}
use Rattle.dns_wire.proofs.FlatForms.{are_labels, flat_is, short_labels}
use Rattle.dns_wire.proofs.Wire.{few_labels}
use Rattle.dns_flat.proofs.relative.RelativeName.iter.Goals as goal

pub at-requires : goal.at-requires
at-requires g c = are_labels _ c.args.self.now c.as_slice.ensures.octets (short_labels c.args.self.now c.as_slice.ensures.name.labels)

pub returns-clause-labels : goal.returns-clause-labels
returns-clause-labels g c = c.at.ensures ∙ flat_is _ c.args.self.now c.as_slice.ensures.octets

pub returns-clause-few : goal.returns-clause-few
returns-clause-few g c =
    let few = few_labels c.args.self.now c.as_slice.ensures.name in
    let is = ap (length {A = List ℕ}) (c.at.ensures ∙ flat_is _ c.args.self.now c.as_slice.ensures.octets) in
    omega (arith, length-append c.args.self.now ([] ∷ []))
