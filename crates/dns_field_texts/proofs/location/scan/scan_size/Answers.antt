use Rattle.std.proofs.Common.{◌∙◌, inr, arith}
use Rattle.std.proofs.lemmas.Grind.{common_steps}
use Rattle.dns_field_texts.proofs.LocationScans.{no_size, none_there}
use Rattle.dns_field_texts.proofs.location.scan.scan_size.Goals as goal

pub returns-then-not-continues-clause-ok : goal.returns-then-not-continues-clause-ok
returns-then-not-continues-clause-ok g c =
    let none = none_there (g.S.Scanner.tokens c.args.scanner.now) (λ some. let yes = c.continues.ensures.some.1 some in grind (arith, common_steps)) in
    λ word spells. inr (none, c.continues.ensures.stays ∙ none, spells)

pub returns-in-None-clause-err : goal.returns-in-None-clause-err
returns-in-None-clause-err g c = λ short word left size has.
    no_size word size c.continues.ensures.stays c.in_ok-peek_text.ensures.ok.1 c.in-None.ensures.none has
