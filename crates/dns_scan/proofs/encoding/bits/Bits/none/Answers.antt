use Rattle.std.proofs.Common.{refl}
use Rattle.dns_scan.specs.Bits.{bits}
use Rattle.dns_scan.proofs.encoding.bits.Bits.none.Goals as goal

pub returns : goal.returns
unfolding bits
returns c = refl
