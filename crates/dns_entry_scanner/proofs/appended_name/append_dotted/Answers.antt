use Rattle.std.proofs.Common.{[]}
use Rattle.dns_label.specs.NameText.IsAbsoluteText.{root}
use Rattle.dns_entry_scanner.proofs.appended_name.append_dotted.Goals as goal

pub returns-in-Ok-clause-yes : goal.returns-in-Ok-clause-yes
returns-in-Ok-clause-yes c = λ is. ([], root (c.is_root.ensures.0 c.if-is_root.true), c.in-Ok.ensures.ok)
