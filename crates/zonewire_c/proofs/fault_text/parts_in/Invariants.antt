use Rattle.std.proofs.Common.{◌≡◌, drop}
use Rattle.zonewire_c.specs.FaultText.{parts_in, rows_of}
use Rattle.zonewire_c.proofs.fault_text.parts_in.Given as goal

abbrev pub invariant-loop-row : goal.invariant-loop-row
invariant-loop-row l = parts_in (rows_of (drop l.row-index l.table)) l.fault ≡ parts_in (rows_of l.table) l.fault
