use Rattle.dns_canonical_form.proofs.OctetsForms.{last_form}
use Rattle.dns_canonical_form.proofs.octets_form.LastRowOctetsForm.make_octets_canonical.Goals as goal

pub returns : goal.returns
returns g c row are = last_form row g.met.V.LastValue.unnamed are
