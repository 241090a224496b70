use Rattle.dns_canonical_form.proofs.OctetsForms.{none_form}
use Rattle.dns_canonical_form.proofs.octets_form.UnitRowOctetsForm.make_octets_canonical.Goals as goal

pub returns : goal.returns
returns c row are = none_form row are
