use Rattle.std.proofs.Common.{take}
use Rattle.std.specs.Prelude.{string_bytes}
use Rattle.dns_text.specs.Layout.{layout_of}
use Rattle.zone.specs.Printed.{IsPrinted}
use Rattle.zone.proofs.print.print_records.Given as given

abbrev pub invariant-loop-index : given.invariant-loop-index
invariant-loop-index l = IsPrinted (layout_of l.kind) (take l.index l.records) (string_bytes l.text)
