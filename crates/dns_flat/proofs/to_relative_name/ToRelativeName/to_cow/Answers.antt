use Rattle.std.proofs.Common.{◌∙◌, sym}
use Rattle.dns_wire.proofs.FlatForms.{relative-written, labels_wire_one}
use Rattle.dns_flat.proofs.to_relative_name.ToRelativeName.to_cow.Goals as goal

pub of_octets-requires : goal.of_octets-requires
of_octets-requires g c = relative-written _ _ c.as_flat_slice.ensures.name c.in-Some.ensures.octets

pub returns-in-Some : goal.returns-in-Some
returns-in-Some g c = labels_wire_one _ _ (sym c.of_octets.ensures ∙ c.in-Some.ensures.octets)

pub of_octets-requires-in-None : goal.of_octets-requires-in-None
of_octets-requires-in-None g c = relative-written _ _ c.into_octets.ensures.name c.into_octets.ensures.octets

pub returns-in_ok-flat-in-None : goal.returns-in_ok-flat-in-None
returns-in_ok-flat-in-None g c = labels_wire_one _ _ (sym c.of_octets-in-None.ensures ∙ c.into_octets.ensures.octets) ∙ c.in_ok-flat-in-None.ensures
