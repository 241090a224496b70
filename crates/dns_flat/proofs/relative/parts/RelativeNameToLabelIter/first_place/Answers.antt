use Rattle.std.proofs.Common.{List, ℕ, inl, refl, subst, arith, [], ◌∷◌, length-append}
use Rattle.std.proofs.lemmas.Grind.{merely}
use Rattle.dns_label.specs.Name.{IsName}
use Rattle.dns_wire.proofs.Wire.{few_labels, length-wire_is}
use Rattle.dns_flat.proofs.relative.parts.RelativeNameToLabelIter.first_place.Goals as goal

pub returns-clause-few : goal.returns-clause-few
returns-clause-few g c =
    let P : List (List ℕ) → Type 0 = λ n. IsName n in
    let is_name = subst P c.self.view_is c.self.invariant.is_name in
    omega (arith, few_labels c.args.self.now is_name, length-append c.args.self.now ([] ∷ []))

pub returns-clause-short : goal.returns-clause-short
returns-clause-short g c =
    let P : List (List ℕ) → Type 0 = λ n. IsName n in
    let is_name = subst P c.self.view_is c.self.invariant.is_name in omega (arith, is_name.short, length-wire_is c.args.self.now)

pub returns-clause-are : goal.returns-clause-are
returns-clause-are g c =
    let P : List (List ℕ) → Type 0 = λ n. IsName n in
    merely (record { name = _; is_name = subst P c.self.view_is c.self.invariant.is_name; listed = inl refl })
