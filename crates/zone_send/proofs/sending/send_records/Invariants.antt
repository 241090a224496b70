use Rattle.std.proofs.Common.{◌≡◌, ◌≤◌, ◌-◌, take, [], length}
use Rattle.std.specs.Prelude.{slice_get}
use Rattle.zone_core.specs.Query.{AxfrQuery}
use Rattle.zone_send.specs.Sending.{Holds}
use Rattle.zone_send.proofs.Runs.{HoldsFull}
use Rattle.zone_send.proofs.sending.send_records.Given as goal

abbrev pub invariant-loop-start : goal.invariant-loop-start
invariant-loop-start l = record {
  within : l.start ≤ length l.records;
  holds : (query : AxfrQuery) → Holds l.fn.sender query [] → HoldsFull l.sender query (take l.start l.records) (slice_get l.records l.start);
  max : l.sender.max ≡ l.fn.sender.max;
}

abbrev pub decreases-loop-start : goal.decreases-loop-start
decreases-loop-start l = length l.records - l.start
