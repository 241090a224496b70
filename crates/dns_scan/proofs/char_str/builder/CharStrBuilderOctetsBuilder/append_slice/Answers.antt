use Rattle.std.proofs.Common.{refl}
use Rattle.dns_name.proofs.Grows.{GrowsTo-same}
use Rattle.dns_scan.proofs.char_str.builder.CharStrBuilderOctetsBuilder.append_slice.Goals as goal

pub returns-then-octets-clause-grows : goal.returns-then-octets-clause-grows
returns-then-octets-clause-grows g c = GrowsTo-same _ _ _ _ refl refl
