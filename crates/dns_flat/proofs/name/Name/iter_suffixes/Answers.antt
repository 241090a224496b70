use Rattle.std.proofs.Common.{ap, arith, length, [], ◌∷◌, length-append, List, ℕ, ◌∙◌}
use Rattle.dns_wire.specs.Suffix.{suffixes}
use Rattle.dns_wire.proofs.Flat.{flat-written, flat-labels}
use Rattle.dns_flat.proofs.Suffixes.{length-suffixes}
use Rattle.dns_wire.proofs.Wire.{few_labels}
use Rattle.dns_flat.proofs.name.Name.iter_suffixes.Goals as goal

pub invariant_of-result : goal.invariant_of-result
invariant_of-result g c = flat-written _ _ c.as_slice.ensures.name c.as_slice.ensures.octets

pub returns-clause-suffixes : goal.returns-clause-suffixes
returns-clause-suffixes g c = ap suffixes (flat-labels _ _ c.as_slice.ensures.name c.as_slice.ensures.octets)

pub returns-clause-few : goal.returns-clause-few
returns-clause-few g c =
    let long = ap (λ (l : List (List ℕ)). length (suffixes l)) (flat-labels _ _ c.as_slice.ensures.name c.as_slice.ensures.octets)
    ∙ length-suffixes c.args.self.now in
    omega (arith, few_labels c.args.self.now c.as_slice.ensures.name, length-append c.args.self.now ([] ∷ []))
