use Rattle.std.specs.List.{AllByRecursion}
use Rattle.zone_receive.specs.Asked.{asked_of}
use Rattle.zone_records.specs.Records.{IsRecordOf}
use Rattle.zone_receive.proofs.TakenMessages.{HasTaken}
use Rattle.zone_receive.proofs.message.judge_message.Given as given

abbrev pub invariant-loop : given.invariant-loop
invariant-loop l = record {
  taken : HasTaken (asked_of l.query) l.fn.records l.is_first l.message l.counter l.parser l.records l.closed;
  known : AllByRecursion (IsRecordOf l.query.class) l.records;
}
