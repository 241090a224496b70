use Rattle.std.proofs.Common.{arith, length, rules}
use Rattle.std.proofs.lemmas.List.{length-drop, take_all}
use Rattle.dns_entry_scanner.proofs.NumberedTypes.{says_numbered}
use Rattle.dns_entry_scanner.proofs.record_head.numbered_type.numbered_type.Goals as goal

pub returns-in-Some : goal.returns-in-Some
returns-in-Some c =
    says_numbered c.args.text.now _ _ c.from_int.result c.in-84.len_at_least (search rules) (search rules) (search rules) (search rules)
    (take_all _ _ (omega (arith, length-drop 4 c.args.text.now))) c.in-Some.ensures c.if-number-le65535.true (omega (arith, c.from_int.ensures, c.if-number-le65535.true))
