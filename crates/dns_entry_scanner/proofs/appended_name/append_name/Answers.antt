use Rattle.dns_entry_scanner.specs.NameInText.SpellsUnder.{absolute}
use Rattle.dns_entry_scanner.proofs.SpelledUnder.{absolute_name}
use Rattle.dns_entry_scanner.proofs.appended_name.append_name.Goals as goal

pub returns-then-append_dotted-clause-ok : goal.returns-then-append_dotted-clause-ok
returns-then-append_dotted-clause-ok c =
    let appended = c.append_dotted.ensures.yes c.if-append_dotted.true in
    (appended.0, absolute appended.1, absolute_name appended.1, appended.2)
