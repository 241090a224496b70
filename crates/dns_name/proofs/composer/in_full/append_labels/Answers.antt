use Rattle.std.proofs.Common.{◌∙◌, rules}
use Rattle.dns_name.proofs.Growth.{GrowsTo-trans}
use Rattle.dns_name.proofs.Appending.{appends_none, appends_more, appends_past, appends_all}
use Rattle.dns_name.proofs.composer.in_full.append_labels.Goals as goal

pub loop-label-init : goal.loop-label-init
loop-label-init g c = (
  appends_none _ _ _ _ _
      (c.into_iter-label-iterator.ensures.into_iter_gives ∙ c.iter_labels-label-items.ensures.labels ∙ g.met.N.ToName.is_absolute c.args.name.now),
  g.met.T.OctetsBuilder.stays_here c.args.target.now,
)

pub loop-label-preserved : goal.loop-label-preserved
loop-label-preserved g c = (
  appends_more c.in-Some.label.octets.now c.loop-label.invariant.0 c.in-Some.ensures.steps c.in_ok-append_label.ensures.ok
      c.append_label.ensures.known c.append_label.ensures.grows c.append_label.ensures.same_bound c.in_ok-append_label.ensures.fits,
  g.met.T.OctetsBuilder.stays_on _ _ _ c.loop-label.invariant.1 c.append_label.ensures.stays,
)

pub returns-in_err-append_label-clause-grows : goal.returns-in_err-append_label-clause-grows
returns-in_err-append_label-clause-grows g c = GrowsTo-trans c.loop-label.invariant.0.grows c.append_label.ensures.grows

pub returns-in_err-append_label-clause-short : goal.returns-in_err-append_label-clause-short
returns-in_err-append_label-clause-short g c is =
    appends_past _ c.in-Some.label.octets.now c.loop-label.invariant.0 c.in-Some.ensures.steps (c.append_label.ensures.short (search rules))

pub returns-clause-ok : goal.returns-clause-ok
returns-clause-ok g c = appends_all _ c.loop-label.invariant.0 c.in-None.ensures.steps.0
