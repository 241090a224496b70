use Rattle.std.proofs.Common.{◌∙◌, arith}
use Rattle.dns_entry_scanner.proofs.Rows.{end_at_comment}
use Rattle.dns_entry_scanner.proofs.row.is_end_at.Goals as goal

pub loop-at-preserved : goal.loop-at-preserved
loop-at-preserved c =
    c.loop-at.invariant
    ∙ end_at_comment c.args.text.now c.loop-at.at c.line_end-at.result (omega arith) c.in-59.is c.line_end-at.ensures.feed
