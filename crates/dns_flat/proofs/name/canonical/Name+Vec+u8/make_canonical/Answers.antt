use Rattle.std.proofs.Common.{◌∙◌, ap, map, length, ℕ, arith}
use Rattle.std.specs.Char.{to_ascii_lowercase}
use Rattle.dns_label.specs.Name.{low}
use Rattle.dns_label.specs.Labels.{labels_at}
use Rattle.dns_wire.proofs.Case.{low_wire}
use Rattle.dns_wire.proofs.Flat.{flat-written, flat-labels}
use Rattle.dns_wire.proofs.LowNames.{low_name, lowered_back}
use Rattle.dns_flat.proofs.name.canonical.Name+Vec+u8.make_canonical.Goals as goal

pub invariant_of-self : goal.invariant_of-self
invariant_of-self c =
    let name = labels_at c.self.inside.octets.items 0 in
    let lowered = lowered_back c.self.inside.octets.items c.make_ascii_lowercase.new.self c.self.inside.octets.len (omega (arith, c.as_mut_slice.ensures.len, ap (length {A = ℕ}) c.as_mut_slice.ensures.value)) (c.make_ascii_lowercase.ensures.after ∙ ap (map to_ascii_lowercase) c.as_mut_slice.ensures.value)
    ∙ ap (map to_ascii_lowercase) (c.self.invariant.whole) ∙ low_wire name c.self.invariant.is_name.labels in
    flat-written _ (low name) (low_name name c.self.invariant.is_name) lowered

pub returns : goal.returns
returns c =
    let name = labels_at c.self.inside.octets.items 0 in
    let lowered = lowered_back c.self.inside.octets.items c.make_ascii_lowercase.new.self c.self.inside.octets.len (omega (arith, c.as_mut_slice.ensures.len, ap (length {A = ℕ}) c.as_mut_slice.ensures.value)) (c.make_ascii_lowercase.ensures.after ∙ ap (map to_ascii_lowercase) c.as_mut_slice.ensures.value)
    ∙ ap (map to_ascii_lowercase) (c.self.invariant.whole) ∙ low_wire name c.self.invariant.is_name.labels in
    flat-labels _ (low name) (low_name name c.self.invariant.is_name) lowered ∙ ap low c.self.view_is
