use Rattle.dns_entry_scanner.proofs.PlainOctets.{feed_to}
use Rattle.dns_entry_scanner.proofs.plain_octets.line_end.Goals as goal

pub returns-clause-feed : goal.returns-clause-feed
returns-clause-feed c = feed_to c.args.text.now c.args.place c.run_end.result c.run_end.ensures.end
