use Rattle.std.proofs.Common.{◌∙◌, sym}
use Rattle.dns_wire.proofs.FlatForms.{relative-written, labels_wire_one}
use Rattle.dns_flat.proofs.to_relative_name.ToRelativeName.to_vec.Goals as goal

pub of_octets-requires : goal.of_octets-requires
of_octets-requires g c =
    relative-written _ _ c.labels_of.ensures.name (c.in_ok-octets.ensures.items ∙ c.as_slice.ensures ∙ c.labels_of.ensures.octets)

pub returns : goal.returns
returns g c =
    labels_wire_one _ _ (sym c.of_octets.ensures ∙ c.in_ok-octets.ensures.items ∙ c.as_slice.ensures ∙ c.labels_of.ensures.octets)
