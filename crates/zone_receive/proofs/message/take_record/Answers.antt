use Rattle.std.proofs.Common.{List, arith, subst, sym}
use Rattle.std.specs.List.{AllByRecursion}
use Rattle.std.proofs.lemmas.Result.{err_from_is_err_and}
use Rattle.dns_octets.specs.Parser.{octets_of, place_of}
use Rattle.dns_name.specs.ParsedName.{labels_of}
use Rattle.dns_header.specs.Record.{with_labels}
use Rattle.dns_message.specs.Held.{record_of}
use Rattle.zone_records.specs.Record as spec
use Rattle.zone_records.specs.Records.{IsRecordOf}
use Rattle.zone_records.specs.Typed.{seen_of}
use Rattle.zone_receive.specs.declared.error.ReceiveError.{ReceiveError}
use Rattle.zone_receive.specs.Asked.{asked_of}
use Rattle.zone_receive.specs.Receiving.{IsRecordFault}
use Rattle.zone_receive.specs.FrameBuffer.{HoldsFront}
use Rattle.zone_receive.proofs.SpelledRecords.{read_has_data}
use Rattle.zone_receive.proofs.TakenRecords.{fault_or, holds_counted, taken_off, takes_last, takes_inner}
use Rattle.zone_receive.proofs.message.take_record.Goals as goal

pub returns-in_default-clause-err : goal.returns-in_default-clause-err
returns-in_default-clause-err c =
    λ front holds. (omega (arith, holds_counted c.from.result holds c.from.ensures), c.in_default.ensures.err)

pub push_from_message-requires : goal.push_from_message-requires
push_from_message-requires c = c.in-Ok.ensures.ok.is_record

pub judge_record-requires : goal.judge_record-requires
judge_record-requires c =
    let holds = c.requires.holds.1 in
    let r : spec.Record = record_of (seen_of (with_labels labels_of c.in-Ok.next)) in
    record {
      held = c.args.records.now;
      r = r;
      splits = c.in_ok-push_from_message.ensures.ok;
      front = c.requires.holds.0;
      holds = holds;
      numbered = omega (arith, holds_counted c.from.result holds c.from.ensures);
      known = c.requires.known;
      data_is = read_has_data r c.in-Ok.ensures.ok;
    }

pub returns-in_err-judge_record-clause-err : goal.returns-in_err-judge_record-clause-err
returns-in_err-judge_record-clause-err c =
    let p = err_from_is_err_and c.from_residual-in_err-judge_record.result c.from_residual-in_err-judge_record.ensures.1 in
    let Fault : ReceiveError → Type 0 = λ error. (front : List spec.Record)
    → HoldsFront (asked_of c.args.query.now) c.args.records.now c.args.closed front
    → IsRecordFault (asked_of c.args.query.now) front (octets_of c.args.parser.now) (place_of c.args.parser.now) error in
    rw (p.1, p.2) (fault_or Fault c.in_err-judge_record.field-0.0 (λ front holds. c.in_err-judge_record.ensures.err c.args.records.now front
    (record_of (seen_of (with_labels labels_of c.in-Ok.next))) (octets_of c.args.parser.now) (place_of c.args.parser.now)
    (place_of c.parse_record.new.parser) c.in_ok-push_from_message.ensures.ok holds
    (omega (arith, holds_counted c.from.result holds c.from.ensures)) c.in-Ok.ensures.ok))

pub returns-in-Inner-clause-ok : goal.returns-in-Inner-clause-ok
returns-in-Inner-clause-ok c =
    let places = c.in_ok-judge_record.ensures in
    let r : spec.Record = record_of (seen_of (with_labels labels_of c.in-Ok.next)) in
    let is = rw c.in-Inner.is at (places.ok c.args.records.now r c.in_ok-push_from_message.ensures.ok) in
    λ front holds. takes_inner r c.in-Ok.ensures.ok places.open c.in_ok-push_from_message.ensures.ok is holds

pub returns-in-Last-clause-ok : goal.returns-in-Last-clause-ok
returns-in-Last-clause-ok c =
    let places = c.in_ok-judge_record.ensures in
    let r : spec.Record = record_of (seen_of (with_labels labels_of c.in-Ok.next)) in
    let is = rw c.in-Last.is at (places.ok c.args.records.now r c.in_ok-push_from_message.ensures.ok) in
    let same = taken_off c.args.records.now r c.in_ok-push_from_message.ensures.ok c.pop.ensures in
    λ front holds. takes_last r c.in-Ok.ensures.ok places.open same is holds

pub returns-in-Last-clause-known : goal.returns-in-Last-clause-known
returns-in-Last-clause-known c =
    let r : spec.Record = record_of (seen_of (with_labels labels_of c.in-Ok.next)) in
    let same = taken_off c.args.records.now r c.in_ok-push_from_message.ensures.ok c.pop.ensures in
    subst (AllByRecursion (IsRecordOf c.args.query.now.class)) (sym same) c.requires.known
