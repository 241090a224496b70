use Rattle.std.proofs.Common.{refl}
use Rattle.dns_fields.specs.Alike.{canonical_rows_cmp}
use Rattle.dns_fields.proofs.laws.canonical_order_is_octet_order.Goals as goal

pub returns : goal.returns
unfolding canonical_rows_cmp
returns c = λ row other. refl
