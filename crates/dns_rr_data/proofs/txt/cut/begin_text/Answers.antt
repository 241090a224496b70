use Rattle.std.proofs.Common.{ℕ, length, ap, arith}
use Rattle.dns_rr_data.proofs.Builds.{adds_len}
use Rattle.dns_rr_data.proofs.Appended.{at_most}
use Rattle.dns_rr_data.proofs.txt.cut.begin_text.Goals as goal

pub returns-in-Ok-clause-fits : goal.returns-in-Ok-clause-fits
returns-in-Ok-clause-fits g c =
    let few = at_most _ (λ over. let no = c.is_long.ensures.1 over in let is = c.if-is_long.false in cc) in
    omega (arith, few, adds_len c.in-Ok.ensures.ok, ap (length {A = ℕ}) c.octets-len.ensures)
