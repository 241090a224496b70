use Rattle.std.proofs.Common.{arith}
use Rattle.dns_entry_scanner.proofs.Lines.{line_ended, line_passed}
use Rattle.dns_entry_scanner.proofs.line_mark.next_line.Goals as goal

pub returns-then-end-text-clause-left : goal.returns-then-end-text-clause-left
returns-then-end-text-clause-left c =
    line_ended c.args.text.now c.args.place c.line_end-end.result c.line_end-end.ensures.feed (omega (arith, c.if-end-text.true))

pub returns-else-end-text-clause-left : goal.returns-else-end-text-clause-left
returns-else-end-text-clause-left c = line_passed c.args.text.now c.args.place c.line_end-end.result c.line_end-end.ensures.feed
