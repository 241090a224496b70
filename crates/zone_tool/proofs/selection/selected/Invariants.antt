use Rattle.std.proofs.Common.{take}
use Rattle.zone_tool.specs.RecordWriter.{Holds}
use Rattle.zone_tool.specs.Selected.{selected_of}
use Rattle.zone_tool.proofs.selection.selected.Given as given

abbrev pub invariant-loop-index : given.invariant-loop-index
invariant-loop-index l = Holds l.writer (selected_of l.selection (take l.index l.records))
