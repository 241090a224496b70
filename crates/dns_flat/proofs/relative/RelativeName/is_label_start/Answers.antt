use Rattle.std.proofs.Common.{List, ℕ, subst}
use Rattle.std.specs.Prelude.{IsTrue, ◌↔◌}
use Rattle.dns_wire.specs.Parts.{IsLabelStart}
use Rattle.dns_wire.proofs.FlatForms.{are_labels, flat_is, short_labels}
use Rattle.dns_flat.proofs.relative.RelativeName.is_label_start.Goals as goal

pub starts_label-requires : goal.starts_label-requires
starts_label-requires g c = are_labels _ c.args.self.now c.as_slice.ensures.octets (short_labels c.args.self.now c.as_slice.ensures.name.labels)

pub returns : goal.returns
returns g c =
    let P : List (List ℕ) → Type 0 = λ l. IsTrue c.starts_label.result ↔ IsLabelStart l c.args.place in
    subst P (flat_is _ c.args.self.now c.as_slice.ensures.octets) c.starts_label.ensures
