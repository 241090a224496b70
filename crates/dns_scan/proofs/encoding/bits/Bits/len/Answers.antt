use Rattle.std.proofs.Common.{length, ℕ, sym, ◌∙◌, ap}
use Rattle.dns_scan.proofs.BitLists.{length-bits}
use Rattle.dns_scan.proofs.encoding.bits.Bits.len.Goals as goal

pub returns : goal.returns
returns c = sym (length-bits c.self.inside.count c.self.inside.number) ∙ ap (length {A = ℕ}) c.self.view_is
