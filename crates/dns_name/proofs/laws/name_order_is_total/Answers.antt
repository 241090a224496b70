use Rattle.dns_flat.specs.OrderLaws.{labels_total}
use Rattle.dns_name.proofs.laws.name_order_is_total.Goals as goal

pub returns : goal.returns
returns c = labels_total
