use Rattle.std.specs.Prelude.{nat_eq}
use Rattle.std.specs.Cmp.Lexicographic.{pointwise}
use lib.Pointwise.{pointwise_decides, bytes_decides}
use Rattle.dns_label.specs.Name.{low}
use Rattle.dns_wire.proofs.Case.{same_bool}
use Rattle.dns_flat.proofs.relative.order.RelativeNamePartialEq.eq.Goals as goal

pub returns : goal.returns
returns g c =
    let name = low c.args.self.now in
    let other = low c.args.other.now in
    let decides = pointwise_decides {E = pointwise nat_eq} bytes_decides name other in
    same_bool c.name_eq.result (pointwise (pointwise nat_eq) name other)
    (λ t. decides.1 (c.name_eq.ensures.0 t)) (λ t. c.name_eq.ensures.1 (decides.0 t))
