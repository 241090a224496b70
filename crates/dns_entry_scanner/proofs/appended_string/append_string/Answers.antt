use Rattle.std.proofs.Common.{sym}
use Rattle.dns_entry_scanner.proofs.PlainTexts.{plain_spells}
use Rattle.dns_entry_scanner.proofs.Refused.{on_ok_weaker}
use Rattle.dns_entry_scanner.proofs.appended_string.append_string.Goals as goal

pub returns-then-is_plain-clause-ok : goal.returns-then-is_plain-clause-ok
returns-then-is_plain-clause-ok c =
    on_ok_weaker c.append_counted.result _ _
    (λ behind. (c.args.token.text.now, record { spells = plain_spells _ (sym c.if-is_plain.ensures); short = c.if-token-le-STRING_MOST.true }, behind))
    c.append_counted.ensures.ok
