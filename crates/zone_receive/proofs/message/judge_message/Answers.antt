use Rattle.std.proofs.Common.{◌≡◌, arith, ap, sym, ◌∙◌, subst}
use Rattle.std.proofs.lemmas.Result.{err_from_is_err_and}
use Rattle.dns_octets.specs.Parser.{octets_of}
use Rattle.zone_receive.specs.Asked.{asked_of}
use Rattle.zone_receive.specs.Receiving.{IsMessageFault}
use Rattle.zone_records.specs.Records.{AreOctets}
use Rattle.zone_records.proofs.OctetFronts.{octets_by_place}
use Rattle.zone_receive.proofs.TakenRecords.{fault_or}
use Rattle.zone_receive.proofs.TakenMessages.{taken_none, taken_more, taken_fault}
use Rattle.zone_receive.proofs.message.judge_message.Goals as goal

pub returns-in_err-check_header-clause-err : goal.returns-in_err-check_header-clause-err
returns-in_err-check_header-clause-err c =
    let p = err_from_is_err_and c.from_residual.result c.from_residual.ensures.1 in
    rw (p.1, p.2) (fault_or (IsMessageFault (asked_of c.args.query.now) c.args.records.now c.args.is_first c.args.message.now) _
    (c.in_err-check_header.ensures.err c.args.records.now c.args.is_first))

pub take_record-requires-clause-octets : goal.take_record-requires-clause-octets
take_record-requires-clause-octets c =
    subst AreOctets (sym c.loop.invariant.taken.octets) (octets_by_place c.args.message.now (λ i. let fits = c.type_inv.message i in omega (arith, fits)))

pub loop-init : goal.loop-init
loop-init c =
    let seeks = c.in-Ok.ensures.ok in
    let same : octets_of c.seek.new.self ≡ c.args.message.now = ap (λ b. b.now) seeks.0 ∙ c.from_ref-parser.ensures.octets in
    record {
      taken = taken_none (asked_of c.args.query.now) c.args.records.now c.args.is_first c.args.message.now c.in-Some.start c.seek.new.self
          c.in_ok-check_header.ensures.ok c.in-Some.ensures.some same seeks.1 c.requires.lawful;
      known = c.requires.known;
    }

pub returns-in_err-closed-clause-err : goal.returns-in_err-closed-clause-err
returns-in_err-closed-clause-err c =
    let p = err_from_is_err_and c.from_residual-in_err-closed.result c.from_residual-in_err-closed.ensures.1 in
    rw (p.1, p.2) (taken_fault (asked_of c.args.query.now) c.args.records.now c.args.is_first c.args.message.now c.loop.counter c.loop.parser
    c.loop.records c.loop.closed _ c.loop.invariant.taken (omega (arith, c.loop-test.true, c.answers_in-end.ensures)) c.in_err-closed.ensures.err)

pub loop-preserved : goal.loop-preserved
loop-preserved c = record {
  taken = taken_more (asked_of c.args.query.now) c.args.records.now c.args.is_first c.args.message.now c.loop.counter c.loop.parser
      c.take_record.new.parser c.loop.records c.take_record.new.records c.loop.closed c.in_ok-closed.closed c.loop.invariant.taken
      c.in_ok-closed.ensures.same c.in_ok-closed.ensures.ok;
  known = c.in_ok-closed.ensures.known;
}
