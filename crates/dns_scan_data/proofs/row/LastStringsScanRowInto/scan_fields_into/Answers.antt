use Rattle.std.proofs.Common.{List, subst}
use Rattle.dns_scan.specs.Token.{Token}
use Rattle.dns_fields.proofs.TextStrings.{no_strings, no_tokens}
use Rattle.dns_entry_scanner.specs.AppendedString.{AppendsStrings, SpellsNoStrings}
use Rattle.dns_scan_data.proofs.Strings.{strings_appended}
use Rattle.dns_scan_data.proofs.row.LastStringsScanRowInto.scan_fields_into.Goals as goal

pub returns-then-not-continues-clause-err : goal.returns-then-not-continues-clause-err
returns-then-not-continues-clause-err g c = λ short.
    no_tokens _ _ (λ some. let yes = c.continues.ensures.some.1 some in absurd (let no = c.if-not-continues.true in cc))

pub returns-in-Ok-clause-ok : goal.returns-in-Ok-clause-ok
returns-in-Ok-clause-ok g c =
    strings_appended (c.continues.ensures.some.0 (let no = c.if-not-continues.false in cc))
    (subst (λ (t : List Token). AppendsStrings t (g.S.Scanner.tokens c.scan_charstr_entry_into.new.self) c.args.octets.now.items c.scan_charstr_entry_into.new.octets.items)
    c.continues.ensures.stays c.in-Ok.ensures.ok)

pub returns-in-Err-clause-err : goal.returns-in-Err-clause-err
returns-in-Err-clause-err g c = λ short.
    no_strings _ _ (subst (λ (t : List Token). SpellsNoStrings t) c.continues.ensures.stays (c.in-Err.ensures.err short))
