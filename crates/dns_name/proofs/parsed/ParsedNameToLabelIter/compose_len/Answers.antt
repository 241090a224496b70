use Rattle.std.proofs.Common.{length, ap, ◌∙◌, sym, ℕ}
use Rattle.dns_wire.proofs.Wire.{labels_wire-with_root}
use Rattle.dns_name.proofs.parsed.ParsedNameToLabelIter.compose_len.Goals as goal

pub returns : goal.returns
returns g c = c.args.self.now.counted ∙ sym (ap (length {A = ℕ}) (labels_wire-with_root _))
