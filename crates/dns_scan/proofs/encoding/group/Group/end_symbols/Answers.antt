use Rattle.std.proofs.Common.{refl}
use Rattle.dns_scan.proofs.Deciphered.{deciphers_whole, deciphers_short}
use Rattle.dns_scan.proofs.encoding.group.Group.end_symbols.Goals as goal

pub returns-then-is_whole-clause-ok : goal.returns-then-is_whole-clause-ok
returns-then-is_whole-clause-ok g c = deciphers_whole c.args.base c.args.self.now (c.if-is_whole.ensures.0 refl)

pub returns-clause-err : goal.returns-clause-err
returns-clause-err g c =
    deciphers_short c.args.base c.args.self.now (λ whole. let bad = c.if-is_whole.ensures.1 whole in cc)
