use Rattle.std.proofs.Common.{take}
use Rattle.std.specs.Prelude.{string_bytes}
use Rattle.zone_tool.specs.Differences.{IsChangeText}
use Rattle.zone_tool.proofs.differences.change_text.Given as given

abbrev pub invariant-loop-index : given.invariant-loop-index
invariant-loop-index l = IsChangeText (take l.index l.changes) (string_bytes l.text)
