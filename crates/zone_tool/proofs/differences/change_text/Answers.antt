use Rattle.std.proofs.Common.{arith}
use Rattle.std.proofs.lemmas.List.{take_all}
use Rattle.zone_records.proofs.Indexed.{all_at}
use Rattle.zone_canonical.specs.Changes.{ChangesForm}
use Rattle.zone_tool.specs.Differences.IsChangeText.{none}
use Rattle.zone_tool.proofs.ChangeTexts.{text_more}
use Rattle.zone_tool.proofs.differences.change_text.Goals as goal

pub loop-index-init : goal.loop-index-init
loop-index-init c = rw c.new-text.ensures.bytes none

pub print_change-requires : goal.print_change-requires
print_change-requires c = all_at ChangesForm c.args.changes.now c.loop-index.index c.change_at.result c.change_at.ensures c.requires

pub loop-index-preserved : goal.loop-index-preserved
loop-index-preserved c =
    text_more c.args.changes.now c.loop-index.index c.change_at.result _ _ c.change_at.ensures c.loop-index.invariant c.in_ok-print_change.ensures

pub returns : goal.returns
returns c = rw c.into_bytes.ensures.value (rw (take_all c.loop-index.index c.args.changes.now (omega arith)) at c.loop-index.invariant)
