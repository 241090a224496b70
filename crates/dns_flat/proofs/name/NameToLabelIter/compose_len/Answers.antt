use Rattle.std.proofs.Common.{length, ap, ◌∙◌, sym, ℕ}
use Rattle.dns_wire.proofs.Wire.{labels_wire-with_root}
use Rattle.dns_flat.proofs.name.NameToLabelIter.compose_len.Goals as goal

pub returns : goal.returns
returns g c = c.len.ensures.octets ∙ sym (ap (length {A = ℕ}) (labels_wire-with_root _))
