use Rattle.std.proofs.Common.{◌≡◌, ◌∙◌, subst, rules, arith}
use Rattle.dns_label.specs.Name.{IsName}
use Rattle.zone.specs.View.{apex_of}
use Rattle.zone_send.specs.Best.{IsSentFor}
use Rattle.zone_send.specs.SentBy.{IsSendFault}
use Rattle.zone_tool.specs.Statistics.{transfer_query}
use Rattle.zone_tool.proofs.OwnQueries.{asks_for_zone, query_is}
use Rattle.zone_tool.proofs.statistics.stream_len.Goals as goal

pub returns-in_err-query-clause-err : goal.returns-in_err-query-clause-err
returns-in_err-query-clause-err c =
    let zone = c.args.zone.now in
    let name : IsName (apex_of zone.records) = subst IsName c.apex-apex.ensures c.as_slice-octets.ensures.name in
    let asks = asks_for_zone zone name (omega (arith, c.class.ensures.class, c.class.type_inv)) c.class.ensures.known in
    search rules

pub returns-in_err-stream-clause-err : goal.returns-in_err-stream-clause-err
returns-in_err-stream-clause-err c =
    let zone = c.args.zone.now in
    let is : c.as_slice.result.now ≡ transfer_query zone =
    query_is zone c.apex-apex.result c.class.result c.in_ok-query.query.items c.as_slice.result.now c.as_slice.ensures.value c.in_ok-query.ensures
    c.apex-apex.ensures c.class.ensures.class in
    let fault = subst (λ query. IsSendFault c.args.spelling zone.records (apex_of zone.records) zone.class query c.args.max c.in_err-stream.field-0.0)
    is c.in_err-stream.ensures.err in
    search rules

pub returns-clause-ok : goal.returns-clause-ok
returns-clause-ok c =
    let zone = c.args.zone.now in
    let is : c.as_slice.result.now ≡ transfer_query zone =
    query_is zone c.apex-apex.result c.class.result c.in_ok-query.query.items c.as_slice.result.now c.as_slice.ensures.value c.in_ok-query.ensures
    c.apex-apex.ensures c.class.ensures.class in
    record {
      stream = c.in_ok-stream.stream.items;
      sent = subst (λ query. IsSentFor c.args.spelling zone.records zone.class query c.args.max c.in_ok-stream.stream.items) is c.in_ok-stream.ensures.ok;
      long = c.len.ensures ∙ c.in_ok-stream.stream.ok.0;
    }
