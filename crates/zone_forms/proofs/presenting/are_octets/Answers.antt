use Rattle.std.proofs.Common.{arith}
use Rattle.zone_forms.proofs.ReadBack.{octets_by_place}
use Rattle.zone_forms.proofs.presenting.are_octets.Goals as goal

pub returns : goal.returns
returns c = octets_by_place c.args._octets.now (λ i. let fits = c.type_inv._octets i in omega (arith, fits))
