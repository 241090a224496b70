use Rattle.std.proofs.Common.{◌≡◌, List, ◌++◌, length}
use Rattle.std.specs.List.{flat_map}
use Rattle.dns_label.specs.declared.symbol.Symbol.{Symbol}
use Rattle.dns_label.specs.OwnedLabel.{octets_owned}
use Rattle.dns_label.specs.Symbol.{spelled}
use Rattle.dns_label.proofs.LabelTexts.{Taking}
use Rattle.dns_label.proofs.label.owned.OwnedLabel.from_text.Given as goal

abbrev pub invariant-loop-rest : goal.invariant-loop-rest
invariant-loop-rest l = (taken : List Symbol) × Taking taken (octets_owned l.read) × (l.text ≡ flat_map spelled taken ++ l.rest)

abbrev pub decreases-loop-rest : goal.decreases-loop-rest
decreases-loop-rest l = length l.rest
