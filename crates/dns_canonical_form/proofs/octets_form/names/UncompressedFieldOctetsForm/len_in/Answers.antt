use Rattle.std.proofs.Common.{◌≡◌, ◌++◌, length}
use Rattle.dns_label.specs.Labels.{labels_at}
use Rattle.dns_label.specs.Name.{wire}
use Rattle.dns_fields.specs.Fields.{IsField, field_octets}
use Rattle.dns_fields.proofs.FieldKinds.{of_uncompressed}
use Rattle.dns_canonical_form.proofs.octets_form.names.UncompressedFieldOctetsForm.len_in.Goals as goal

pub returns : goal.returns
returns g c field rest starts =
    of_uncompressed (λ f. IsField f → c.args.octets.now ≡ field_octets f ++ rest → c.name_len.result ≡ length (wire (labels_at c.args.octets.now 0)))
    field (λ name is at. c.name_len.ensures name rest is at) starts.is_kind starts.is_field starts.written
