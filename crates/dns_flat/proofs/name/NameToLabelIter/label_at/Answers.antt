use Rattle.dns_flat.proofs.Standing.{stands-label, stands-next, stands-none}
use Rattle.dns_wire.proofs.Wire.{few_labels}
use Rattle.dns_flat.proofs.name.NameToLabelIter.label_at.Goals as goal

pub returns-in_err-place-clause-label : goal.returns-in_err-place-clause-label
returns-in_err-place-clause-label g c = rw c.from_residual.ensures (stands-none c.requires c.in_err-place.was)

pub returns-in_err-place-clause-few : goal.returns-in_err-place-clause-few
returns-in_err-place-clause-few g c = few_labels _ c.as_slice.ensures.name

pub returns-clause-label : goal.returns-clause-label
returns-clause-label g c = stands-label c.split_label.result.1 c.requires c.in_ok-place.was c.as_slice.ensures.octets c.split_label.ensures.labels

pub returns-clause-next : goal.returns-clause-next
returns-clause-next g c = stands-next c.split_label.result.1 c.requires c.in_ok-place.was c.as_slice.ensures.octets c.split_label.ensures.labels c.split_label.ensures.left

pub returns-clause-few : goal.returns-clause-few
returns-clause-few g c = few_labels _ c.as_slice.ensures.name
