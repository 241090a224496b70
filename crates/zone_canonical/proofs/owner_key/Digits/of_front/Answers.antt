use Rattle.std.proofs.Common.{◌∙◌, ap, reverse}
use Rattle.dns_label.specs.Name.{low}
use Rattle.zone_canonical.specs.OwnerKey.{front_key}
use Rattle.zone_canonical.proofs.KeyDigits.{first_label}
use Rattle.zone_canonical.proofs.owner_key.Digits.of_front.Goals as goal

pub returns : goal.returns
returns c =
    first_label c.last_label-label.result.now c.iter-labels.result c.last_label-label.new.labels c.last_label-label.ensures
    ∙ ap (λ l. front_key (reverse (low l))) c.iter-labels.ensures.labels
