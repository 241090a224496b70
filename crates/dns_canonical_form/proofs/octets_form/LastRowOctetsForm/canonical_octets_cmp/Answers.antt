use Rattle.std.proofs.Common.{◌∙◌}
use Rattle.std.specs.Cmp.Lexicographic.{slice_cmp}
use Rattle.std.specs.Ordering.{nat_cmp}
use Rattle.dns_canonical_form.proofs.OctetsForms.{last_form}
use Rattle.dns_canonical_form.proofs.octets_form.LastRowOctetsForm.canonical_octets_cmp.Goals as goal

pub returns : goal.returns
returns g c row other are others =
    let plain = g.met.V.LastValue.unnamed in
    c.cmp.ensures ∙ (λ i. slice_cmp nat_cmp (last_form row plain are i) (last_form other plain others i))
