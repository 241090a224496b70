use Rattle.std.proofs.Common.{◌∙◌, sym}
use Rattle.dns_wire.proofs.FlatForms.{are_labels, short_labels, flat_is}
use Rattle.dns_flat.proofs.PartForms.{first_written, first_split}
use Rattle.dns_flat.proofs.relative.parts.RelativeName+ref+slice+u8.first_and_rest.Goals as goal

pub split_first-requires : goal.split_first-requires
split_first-requires c = are_labels _ c.args.self c.into_octets.ensures.octets (short_labels c.args.self c.into_octets.ensures.name.labels)

pub returns-in_err-label-clause-none : goal.returns-in_err-label-clause-none
returns-in_err-label-clause-none c =
    rw c.from_residual.ensures (sym (flat_is _ c.args.self c.into_octets.ensures.octets) ∙ c.in_err-label.ensures.none)

pub of_octets-requires : goal.of_octets-requires
of_octets-requires c =
    first_written c.in_ok-label.behind.now c.into_octets.ensures.octets c.into_octets.ensures.name c.in_ok-label.ensures.some c.in_ok-label.ensures.left

pub returns-clause-some : goal.returns-clause-some
returns-clause-some c =
    first_split c.in_ok-label.behind.now c.into_octets.ensures.octets c.in_ok-label.ensures.some c.in_ok-label.ensures.left c.of_octets.ensures
