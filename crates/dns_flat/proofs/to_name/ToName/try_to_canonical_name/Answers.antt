use Rattle.std.proofs.Common.{◌∙◌, ap, length, ℕ, subst}
use Rattle.dns_octets.specs.Builder.{IsPast}
use Rattle.dns_wire.proofs.Flat.{flat-written}
use Rattle.dns_wire.proofs.LowNames.{made_same}
use Rattle.dns_flat.proofs.to_name.ToName.try_to_canonical_name.Goals as goal

pub copied_name-requires : goal.copied_name-requires
copied_name-requires g c = flat-written _ _ c.lowered_wire_of.ensures.name (c.as_slice.ensures.value ∙ c.lowered_wire_of.ensures.octets)

pub returns-clause-ok : goal.returns-clause-ok
returns-clause-ok g c = made_same c.copied_name.result _ _ c.copied_name.ensures.ok (c.as_slice.ensures.value ∙ c.lowered_wire_of.ensures.octets)

pub returns-clause-short : goal.returns-clause-short
returns-clause-short g c = λ short.
    let long = ap (length {A = ℕ}) c.as_slice.ensures.value ∙ c.lowered_wire_of.ensures.long in
    let P : ℕ → Type 0 = λ n. IsPast g.Octs.Builder.EmptyBuilder.limit n in
    subst P long (c.copied_name.ensures.short short)
