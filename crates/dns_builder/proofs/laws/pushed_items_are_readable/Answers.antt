use Rattle.dns_builder.proofs.ReadsBack.{readable_with_item}
use Rattle.dns_builder.proofs.laws.pushed_items_are_readable.Goals as goal

pub returns : goal.returns
returns c = readable_with_item
