use Rattle.std.proofs.Common.{take}
use Rattle.std.specs.Prelude.{filter, string_bytes}
use Rattle.dns_text.specs.Layout.{layout_of}
use Rattle.zone_tool.specs.Sorted.{AddsRecords, is_one}
use Rattle.zone_tool.proofs.sorting.print_those.Given as given

abbrev pub invariant-loop-index : given.invariant-loop-index
invariant-loop-index l = AddsRecords (layout_of l.kind) (filter (is_one l.are_soas) (take l.index l.records)) (string_bytes l.fn.text) (string_bytes l.text)
