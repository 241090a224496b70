use Rattle.std.proofs.Common.{sym, ◌∙◌, ap, map}
use Rattle.std.specs.Char.{to_ascii_lowercase}
use Rattle.dns_label.specs.Name.{low}
use Rattle.dns_wire.proofs.LowNames.{low_octets, low_same}
use Rattle.dns_wire.proofs.Case.{low_with_root, low_without_root}
use Rattle.dns_flat.proofs.to_name.ToName.name_eq.Goals as goal

pub returns-in-Some-Some-clause-labels : goal.returns-in-Some-Some-clause-labels
returns-in-Some-Some-clause-labels g c =
    let a = ap (map to_ascii_lowercase) c.in-Some-Some.ensures.octets in
    let b = ap (map to_ascii_lowercase) c.in-Some-Some.ensures'.octets in (
      λ yes. low_same _ _ c.as_flat_slice.ensures.name c.as_flat_slice-2.ensures.name (sym a ∙ c.eq_ignore_ascii_case.ensures.test.0 yes ∙ b),
      λ same. c.eq_ignore_ascii_case.ensures.test.1 (a ∙ low_octets _ _ c.as_flat_slice.ensures.name c.as_flat_slice-2.ensures.name same ∙ sym b),
    )

pub returns-in_default-clause-wire : goal.returns-in_default-clause-wire
returns-in_default-clause-wire g c =
    let name = g.Self.ToName.name c.args.self.now in
    let other = g.N.ToName.name c.args.other.now in
    let a = ap low (c.iter_labels.ensures.labels ∙ g.met.Self.ToName.is_absolute c.args.self.now) in
    let b = ap low (c.iter_labels-in_default.ensures.labels ∙ g.met.N.ToName.is_absolute c.args.other.now) in (
      λ yes. low_octets name other c.as_flat_slice.ensures.name c.as_flat_slice-2.ensures.name
          (low_without_root name other (sym a ∙ c.same_labels.ensures.0 yes ∙ b)),
      λ same. c.same_labels.ensures.1
          (a ∙ low_with_root name other (low_same name other c.as_flat_slice.ensures.name c.as_flat_slice-2.ensures.name same) ∙ sym b),
    )
