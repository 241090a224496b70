use Rattle.std.proofs.Common.{sym, ◌∙◌, [], ◌∷◌}
use Rattle.dns_flat.proofs.Constants.{wildcard_name}
use Rattle.dns_wire.proofs.FlatForms.{relative-written, labels_wire_one}
use Rattle.dns_flat.proofs.relative.makes.RelativeName+ref+slice+u8.wildcard_ref.Goals as goal

pub of_octets-requires : goal.of_octets-requires
of_octets-requires c = relative-written _ ((42 ∷ []) ∷ []) wildcard_name c.as_slice.ensures

pub returns : goal.returns
returns c = labels_wire_one _ ((42 ∷ []) ∷ []) (sym c.of_octets.ensures ∙ c.as_slice.ensures)
