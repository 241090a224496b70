use Rattle.std.proofs.Common.{[], take}
use Rattle.std.proofs.lemmas.Result.{IfOk-weaker, IfErr-weaker, err_from_is_err_and}
use Rattle.zonewire_c.proofs.Received.{received, not_received, refused}
use Rattle.zonewire_c.proofs.transfers.receive.Goals as goal

pub returns-clause-ok : goal.returns-clause-ok
returns-clause-ok c =
    let takes = c.in_ok-feed.ensures.takes [] c.in_ok-receiver.ensures.fresh.1 in
    let stream = take c.in_ok-feed.field-0 c.args.stream.now in
    IfOk-weaker c.into_zone.result _ _ (λ zone h. received _ _ _ _ c.in_ok-feed.field-0 zone.records c.in_ok-receiver.ensures.ok takes
    (h stream takes.after).1) c.into_zone.ensures.ok

pub returns-clause-err : goal.returns-clause-err
returns-clause-err c =
    let takes = c.in_ok-feed.ensures.takes [] c.in_ok-receiver.ensures.fresh.1 in
    let stream = take c.in_ok-feed.field-0 c.args.stream.now in
    IfErr-weaker c.into_zone.result _ _ (λ error h. not_received _ _ _ _ c.in_ok-feed.field-0 error c.in_ok-receiver.ensures.ok takes
    (h stream takes.after)) c.into_zone.ensures.err

pub returns-in_err-feed-clause-err : goal.returns-in_err-feed-clause-err
returns-in_err-feed-clause-err c =
    let refuses = c.in_err-feed.ensures.takes [] c.in_ok-receiver.ensures.fresh.1 in
    let p = err_from_is_err_and c.from_residual-in_err-feed.result c.from_residual-in_err-feed.ensures.1 in
    rw (p.1, p.2) (refused _ _ _ _ c.in_err-feed.field-0.0 c.in_ok-receiver.ensures.ok c.in_ok-receiver.ensures.fresh.0 refuses)
