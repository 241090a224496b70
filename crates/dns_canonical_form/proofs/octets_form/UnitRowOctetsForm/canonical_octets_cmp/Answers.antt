use Rattle.std.proofs.Common.{◌∙◌}
use Rattle.std.specs.Cmp.Lexicographic.{slice_cmp}
use Rattle.std.specs.Ordering.{nat_cmp}
use Rattle.dns_canonical_form.proofs.OctetsForms.{none_form}
use Rattle.dns_canonical_form.proofs.octets_form.UnitRowOctetsForm.canonical_octets_cmp.Goals as goal

pub returns : goal.returns
returns c row other are others = c.cmp.ensures ∙ (λ i. slice_cmp nat_cmp (none_form row are i) (none_form other others i))
