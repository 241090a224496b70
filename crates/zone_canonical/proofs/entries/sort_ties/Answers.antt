use Rattle.std.proofs.Common.{◌-◌}
use borrow.Rule.Slice.PartMut.{put_mid}
use Rattle.std.proofs.lemmas.List.Sorted.{IsPermutation-put_mid, IsPermutation-refl, IsPermutation-trans}
use Rattle.zone_canonical.proofs.TiedKeys.{all_tied, none_tied, one_tied, run_tied}
use Rattle.zone_canonical.proofs.entries.sort_ties.Goals as goal

pub loop-start-init : goal.loop-start-init
loop-start-init c = record { moved = IsPermutation-refl c.args.entries.now; tied = none_tied c.args.entries.now c.requires }

pub loop-start-preserved-then-end-start-gt1 : goal.loop-start-preserved-then-end-start-gt1
loop-start-preserved-then-end-start-gt1 c =
    let l = c.loop-start in
    let len = c.end_of_tie-end.result - l.start in
    let sorted = c.sort_unstable in record {
      moved = IsPermutation-trans c.args.entries.now l.entries (put_mid l.start len l.entries sorted.new.self) l.invariant.moved
          (IsPermutation-put_mid l.start len l.entries sorted.new.self sorted.ensures.permutation);
      tied = run_tied l.entries sorted.new.self l.start c.end_of_tie-end.result c.end_of_tie-end.ensures sorted.ensures.permutation l.invariant.tied sorted.ensures.sorted;
    }

pub loop-start-preserved : goal.loop-start-preserved
loop-start-preserved c = record {
  moved = c.loop-start.invariant.moved;
  tied = one_tied c.loop-start.entries c.loop-start.start c.end_of_tie-end.result c.end_of_tie-end.ensures c.if-end-start-gt1.false c.loop-start.invariant.tied;
}

pub returns : goal.returns
returns c = record {
  permutation = c.loop-start.invariant.moved;
  sorted = all_tied c.loop-start.entries c.loop-start.start c.loop-start-test.false c.loop-start.invariant.tied;
}
