use Rattle.std.proofs.Common.{arith}
use Rattle.dns_entry_scanner.proofs.Steps.{next_feed, none_at_end, none_refused, same_comment, same_go}
use Rattle.dns_entry_scanner.proofs.step.next_step.Goals as goal

pub loop-at-preserved-in-Go : goal.loop-at-preserved-in-Go
loop-at-preserved-in-Go c = record {
  same = same_go c.args.text.now c.loop-at.at (omega arith) c.loop-at.invariant.same c.in-Go.behind c.in-Go.ensures;
  within = omega arith;
}

pub loop-at-preserved : goal.loop-at-preserved
loop-at-preserved c = record {
  same = same_comment c.args.text.now c.loop-at.at (omega arith) c.loop-at.invariant.same c.line_end-at.result c.in-Comment.ensures
      c.line_end-at.ensures.feed;
  within = c.line_end-at.ensures.within;
}

pub returns-in-Feed-clause-found : goal.returns-in-Feed-clause-found
returns-in-Feed-clause-found c = record {
  next = next_feed c.args.text.now c.loop-at.at (omega arith) c.loop-at.invariant.same c.in-Feed.ensures;
  placed = tt;
  marked = tt;
  within = omega arith;
}

pub returns-in-Refused-clause-none : goal.returns-in-Refused-clause-none
returns-in-Refused-clause-none c =
    none_refused c.args.text.now c.loop-at.at (omega arith) c.loop-at.invariant.same c.in-Refused.ensures

pub returns-clause-none : goal.returns-clause-none
returns-clause-none c = none_at_end c.args.text.now c.loop-at.at (omega arith) c.loop-at.invariant.same
