use Rattle.std.proofs.Common.{◌≡◌, ◌∙◌, sym}
use Rattle.dns_label.specs.Name.{with_root}
use Rattle.dns_wire.proofs.FlatForms.{are_labels, flat_is, short_with_root}
use Rattle.dns_wire.proofs.Wire.{few_labels, labels_wire-with_root}
use Rattle.dns_flat.proofs.name.Name.iter.Goals as goal

pub at-requires : goal.at-requires
at-requires g c =
    are_labels _ (with_root c.args.self.now) (c.as_slice.ensures.octets ∙ sym (labels_wire-with_root c.args.self.now))
    (short_with_root c.args.self.now c.as_slice.ensures.name.labels)

pub returns : goal.returns
returns g c =
    let is : c.at.result ≡ with_root c.args.self.now =
    c.at.ensures ∙ flat_is _ (with_root c.args.self.now) (c.as_slice.ensures.octets ∙ sym (labels_wire-with_root c.args.self.now)) in
    record { labels = is; few = rw is (few_labels _ c.as_slice.ensures.name) }
