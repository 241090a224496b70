use Rattle.std.proofs.Common.{◌∙◌, ap, length, ℕ, subst}
use Rattle.dns_octets.specs.Builder.{IsPast}
use Rattle.dns_wire.proofs.FlatForms.{relative-written}
use Rattle.dns_wire.proofs.LowNames.{made_relative}
use Rattle.dns_flat.proofs.to_relative_name.ToRelativeName.try_to_canonical_relative_name.Goals as goal

pub copied_relative-requires : goal.copied_relative-requires
copied_relative-requires g c = relative-written _ _ c.lowered_labels_of.ensures.name (c.as_slice.ensures.value ∙ c.lowered_labels_of.ensures.octets)

pub returns-clause-ok : goal.returns-clause-ok
returns-clause-ok g c = made_relative c.copied_relative.result _ _ c.copied_relative.ensures.ok (c.as_slice.ensures.value ∙ c.lowered_labels_of.ensures.octets)

pub returns-clause-short : goal.returns-clause-short
returns-clause-short g c = λ short.
    let long = ap (length {A = ℕ}) c.as_slice.ensures.value ∙ c.lowered_labels_of.ensures.long in
    let P : ℕ → Type 0 = λ n. IsPast g.Octs.Builder.EmptyBuilder.limit n in
    subst P long (c.copied_relative.ensures.short short)
