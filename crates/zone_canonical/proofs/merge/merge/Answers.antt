use Rattle.std.proofs.Common.{◌≡◌, ◌-◌, List, drop, length, take, sym, ◌∙◌, arith}
use Rattle.std.specs.List.{push}
use Rattle.std.specs.declared.cmp.Ordering.TheVariants.{Less, Equal, Greater}
use Rattle.zone_canonical.specs.Keyed.{Keyed}
use Rattle.zone_canonical.specs.declared.change_list.Change.TheVariants.{Added, Removed}
use Rattle.zone_canonical.proofs.Ascending.{less_greater, less_tied}
use Rattle.zone_canonical.proofs.MergeSteps.{found, more_left, new_ended, old_ended, step_added, step_equal, step_greater, step_less}
use Rattle.zone_canonical.proofs.merge.merge.Goals as goal

pub loop-old_index-preserved-in-Less : goal.loop-old_index-preserved-in-Less
loop-old_index-preserved-in-Less c =
    let l = c.loop-old_index in
    let x = c.index-old-old_index in record {
      within = l.invariant.within;
      changes = push l.invariant.changes (Removed x.result.form);
      held = c.in_ok-push_removed-in-Less.ensures l.invariant.changes l.invariant.held;
      whole = step_less c.args.old.now c.args.new.now l.old_index l.new_index x.result l.invariant.changes (found c.args.old.now c.args.new.now) x.is (omega arith)
          l.invariant.whole (sym c.in-Less.is ∙ c.cmp_first.ensures);
    }

pub loop-old_index-preserved-in-Equal : goal.loop-old_index-preserved-in-Equal
loop-old_index-preserved-in-Equal c =
    let l = c.loop-old_index in
    let x = c.index-old-old_index in
    let tied = sym c.in-Equal.is ∙ c.cmp_first.ensures in record {
      within = more_left x.result c.args.new.now l.new_index (λ less. less_tied (less ∙ sym tied));
      changes = l.invariant.changes;
      held = l.invariant.held;
      whole = step_equal c.args.old.now c.args.new.now l.old_index l.new_index x.result l.invariant.changes (found c.args.old.now c.args.new.now) x.is (omega arith)
          l.invariant.whole tied;
    }

pub loop-old_index-preserved : goal.loop-old_index-preserved
loop-old_index-preserved c =
    let l = c.loop-old_index in
    let x = c.index-old-old_index in
    let y = c.index-new-new_index in
    let after = sym c.in-Greater.is ∙ c.cmp_first.ensures in
    let more = more_left x.result c.args.new.now l.new_index (λ less. less_greater (less ∙ sym after)) in record {
      within = more;
      changes = push l.invariant.changes (Added y.result.form);
      held = c.in_ok-push_added-in-Greater.ensures l.invariant.changes l.invariant.held;
      whole = step_greater c.args.old.now c.args.new.now l.old_index l.new_index x.result l.invariant.changes (found c.args.old.now c.args.new.now) x.is (omega arith)
          l.invariant.whole y.result y.is (omega (arith, more)) after;
    }

pub loop-added-init : goal.loop-added-init
loop-added-init c =
    let l = c.loop-old_index in record {
      changes = l.invariant.changes;
      held = l.invariant.held;
      whole = old_ended c.args.old.now c.args.new.now l.old_index l.new_index l.invariant.changes (found c.args.old.now c.args.new.now) (omega arith) l.invariant.whole;
    }

pub loop-added-preserved : goal.loop-added-preserved
loop-added-preserved c =
    let l = c.loop-added in
    let items : List Keyed = take (length c.args.new.now - c.loop-old_index.new_index) (drop c.loop-old_index.new_index c.args.new.now) in record {
      changes = push l.invariant.changes (Added c.added-item.result.form);
      held = c.in_ok-push_added.ensures l.invariant.changes l.invariant.held;
      whole = step_added items l.added-index c.added-item.result l.invariant.changes (found c.args.old.now c.args.new.now) c.added-item.is (omega arith) l.invariant.whole;
    }

pub returns : goal.returns
returns c =
    let l = c.loop-added in
    let items : List Keyed = take (length c.args.new.now - c.loop-old_index.new_index) (drop c.loop-old_index.new_index c.args.new.now) in
    c.into_list.ensures l.invariant.changes l.invariant.held
    ∙ new_ended items l.added-index l.invariant.changes (found c.args.old.now c.args.new.now) (omega arith) l.invariant.whole
