use Rattle.std.proofs.Common.{sym}
use Rattle.dns_entry_scanner.proofs.PlainTexts.{plain_spells}
use Rattle.dns_entry_scanner.proofs.appended_string.append_text.Goals as goal

pub returns-then-is_plain-clause-ok : goal.returns-then-is_plain-clause-ok
returns-then-is_plain-clause-ok c = (c.args.token.text.now, plain_spells _ (sym c.if-is_plain.ensures), c.in_ok-extend_from_slice.ensures.items)
