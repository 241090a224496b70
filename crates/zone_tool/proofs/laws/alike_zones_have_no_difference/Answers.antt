use Rattle.zone_tool.specs.Selected.{selected_of}
use Rattle.zone_tool.proofs.ChangeTexts.{no_lines}
use Rattle.zone_tool.proofs.laws.alike_zones_have_no_difference.Goals as goal

pub returns : goal.returns
returns c = λ selection old new text is.
    let changed = c.alike_records_have_no_changes.ensures (selected_of selection old) (selected_of selection new) is.changes is.are in
    let lines = no_lines is.changes text is.written in
    (λ empty. changed.0 (lines.0 empty), λ among. lines.1 (changed.1 among))
