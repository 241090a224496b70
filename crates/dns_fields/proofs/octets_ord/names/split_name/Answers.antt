use Rattle.std.proofs.Common.{◌∙◌}
use Rattle.std.proofs.lemmas.Result.{err_from_is_err_and}
use Rattle.dns_fields.proofs.Prefixes.{begun_none, begun_more, begun_decided, begun_all}
use Rattle.dns_fields.proofs.octets_ord.names.split_name.Goals as goal

pub loop-label-init : goal.loop-label-init
loop-label-init g c =
    begun_none _ _ _
    (c.into_iter-label-iterator.ensures.into_iter_gives ∙ c.iter_labels-label-items.ensures.labels ∙ g.met.N.ToName.is_absolute c.args.name.now)

pub loop-label-preserved : goal.loop-label-preserved
loop-label-preserved g c =
    begun_more _ _ _ _ c.in-Some.label.octets.now _ _ c.loop-label.invariant c.in-Some.ensures.steps c.in_ok-rest.ensures.ok

pub returns-in_err-rest-clause-err : goal.returns-in_err-rest-clause-err
returns-in_err-rest-clause-err g c =
    let p = err_from_is_err_and c.from_residual.result c.from_residual.ensures.1 in
    rw (p.1, p.2)
    (begun_decided _ _ _ c.in-Some.label.octets.now _ _ _ c.loop-label.invariant c.in-Some.ensures.steps c.in_err-rest.ensures.err)

pub returns-clause-ok : goal.returns-clause-ok
returns-clause-ok g c = begun_all _ _ _ _ c.loop-label.invariant c.in-None.ensures.steps.0
