use Rattle.std.proofs.Common.{◌≡◌, Some, true, false, ◌∙◌, sym, subst}
use Rattle.std.specs.Prelude.{slice_get}
use Rattle.zone_tool.specs.Counting.{IsLast}
use Rattle.zone_tool.specs.Statistics.{IsCounted}
use Rattle.zone_tool.proofs.CountedOwners.{counted_none, next_again, next_left_out, next_new}
use Rattle.zone_tool.proofs.statistics.count_owners.Goals as goal
use Rattle.zone_tool.proofs.statistics.count_owners.Goals.{then-is_counted+then-not-is_last, else-is_counted, else-is_counted-via-then-is_counted+else-not-is_last, else-is_counted-via-else-is_counted}

pub loop-index-init : goal.loop-index-init
loop-index-init c = counted_none (IsCounted c.args.only_delegations c.args.apex.now)

pub loop-index-preserved : goal.loop-index-preserved
loop-index-preserved c =
    let Holds = IsCounted c.args.only_delegations c.args.apex.now in
    let forms = c.args.forms.now in
    let form = c.record_at-form.result in
    let index = c.loop-index.index in
    let count = c.loop-index.count in
    let last = c.loop-index.last in
    let at : slice_get forms index ≡ Some form = c.record_at-form.ensures in
    let owner : c.owner-owner.result ≡ form.owner = c.owner-owner.ensures.owner in
    elim c.if-is_counted.branch [
      | then-is_counted+then-not-is_last w ↦
          rw (w.count-is, w.last-is, owner)
          (next_new Holds forms index form count last at c.loop-index.invariant c.requires (c.is_counted.ensures.0 w.if-is_counted.true)
          (λ is. let both : true ≡ false = sym (w.is_last.ensures.1 (subst (IsLast last) (sym owner) is)) ∙ w.if-not-is_last.true in cc))
      | else-is_counted w ↦
          rw (w.count-is, w.last-is)
          (elim w.else-is_counted.branch [
            | else-is_counted-via-then-is_counted+else-not-is_last w' ↦
                next_again Holds forms index form count last at c.loop-index.invariant
                (subst (IsLast last) owner (w'.is_last.ensures.0 w'.if-not-is_last.false))
            | else-is_counted-via-else-is_counted w' ↦
                next_left_out Holds forms index form count last at c.loop-index.invariant
                (λ holds. let both : true ≡ false = sym (c.is_counted.ensures.1 holds) ∙ w'.if-is_counted.false in cc)
          ])
    ]
