use Rattle.std.proofs.Common.{arith}
use Rattle.dns_entry_scanner.proofs.OneLabel.{no_longer}
use Rattle.dns_entry_scanner.proofs.RelativeNames.{near_part}
use Rattle.dns_entry_scanner.proofs.relative_name.run_at.Goals as goal

pub returns-then-start-end-clause-run : goal.returns-then-start-end-clause-run
returns-then-start-end-clause-run c =
    let text = c.args.text.now in
    let from = c.args.from.now in
    near_part text from c.min.result c.args.start c.min-end.result c.run_end.result c.requires.begins
    (omega (arith, no_longer text from c.requires.begins)) (omega arith) (omega arith) (omega arith) c.run_end.ensures.end
