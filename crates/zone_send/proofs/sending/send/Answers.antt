use Rattle.std.proofs.Common.{◌<◌, ◌^◌, ◌∙◌, List, subst, sym, arith}
use Rattle.std.specs.List.{AllByRecursion}
use Rattle.std.proofs.lemmas.Result.{IfOk-weaker, MatchResult-weaker}
use Rattle.dns_builder.proofs.Begun.{handed-on}
use Rattle.zone_records.specs.Record.{Record}
use Rattle.zone_records.specs.Typed.{HasLawfulData}
use Rattle.zone_core.specs.Asked.{asked_by}
use Rattle.zone_send.specs.Sent.{AsksFor}
use Rattle.zone_send.specs.SentBy.{IsSendFault}
use Rattle.zone_send.specs.declared.sending.error.SendError.TheVariants.{OutOfMemory}
use Rattle.zone.specs.View.{apex_of}
use Rattle.zone.proofs.ZoneForms.{zone_data}
use Rattle.zone_send.proofs.SendFaults.{fault_for, id_small}
use Rattle.zone_send.proofs.Best.{sent_for, none_for}
use Rattle.zone_send.proofs.sending.send.Goals as goal

pub returns-then-not-asks_for-clause-err : goal.returns-then-not-asks_for-clause-err
returns-then-not-asks_for-clause-err c = (asked_by c.in-Ok.query, c.in-Ok.ensures.ok, λ asks. let yes = c.if-not-asks_for.ensures.1 asks in absurd cc)

pub returns-in_err-name-clause-err : goal.returns-in_err-name-clause-err
returns-in_err-name-clause-err c =
    let zone = c.args.zone.now in
    let query = asked_by c.in-Ok.query in
    let asks : AsksFor query (apex_of zone.records) zone.class = c.asks_for.ensures.0 c.if-not-asks_for.false in
    handed-on c.from_residual.result OutOfMemory (IsSendFault c.args.spelling zone.records (apex_of zone.records) zone.class c.args.query.now c.args.max)
    c.from_residual.ensures.1 (query, c.in-Ok.ensures.ok, asks)

pub send_by-requires : goal.send_by-requires
send_by-requires c = record {
  asked = c.in_ok-name.ensures ∙ c.name.ensures;
  lawful =
      let P : List Record → Type 0 = λ rs. AllByRecursion HasLawfulData rs in
      subst P (sym c.records_of.ensures.records) (zone_data c.args.zone.now.class c.args.zone.now.records c.records_of.ensures.known);
}

pub returns-clause-ok : goal.returns-clause-ok
returns-clause-ok c =
    let query = asked_by c.in-Ok.query in
    let asks : AsksFor query (apex_of c.args.zone.now.records) c.args.zone.now.class = c.asks_for.ensures.0 c.if-not-asks_for.false in
    let small : query.id < 2 ^ 16 = omega (arith, c.in-Ok.ensures.ok.id, id_small c.args.query.now (λ i. (c.type_inv.query i).fits)) in
    IfOk-weaker c.send_by.result _ _
    (λ stream given. sent_for c.args.spelling c.args.zone.now.class query c.records_of.result.now c.args.zone.now.records c.args.query.now
    c.args.max stream.items c.ranges.max.fits small c.in-Ok.ensures.ok asks c.records_of.ensures.known c.records_of.ensures.records given)
    c.send_by.ensures.ok

pub returns-clause-err : goal.returns-clause-err
returns-clause-err c =
    let query = asked_by c.in-Ok.query in
    let asks : AsksFor query (apex_of c.args.zone.now.records) c.args.zone.now.class = c.asks_for.ensures.0 c.if-not-asks_for.false in
    MatchResult-weaker c.send_by.result c.send_by.ensures.err (λ stream given. given)
    (λ error given. fault_for c.args.spelling query c.args.zone.now.class c.records_of.result.now c.args.zone.now.records c.args.query.now
    c.args.max error c.in-Ok.ensures.ok asks c.records_of.ensures.records given)

pub returns-clause-none : goal.returns-clause-none
returns-clause-none c =
    let query = asked_by c.in-Ok.query in
    MatchResult-weaker c.send_by.result c.send_by.ensures.err (λ stream given. given)
    (λ error given. none_for c.args.spelling c.args.zone.now.class query c.records_of.result.now c.args.zone.now.records c.args.query.now
    c.args.max error c.in-Ok.ensures.ok c.records_of.ensures.known c.records_of.ensures.records given)
