use Rattle.dns_zonefile.proofs.Directions.{bare, held}
use Rattle.dns_zonefile.proofs.statement.directive.bare_text.Goals as goal

pub returns-clause-some : goal.returns-clause-some
returns-clause-some g c =
    held _ _ c.peek_text.result c.ok.result c.ok.ensures.value
    (λ text has. (has.0, bare (λ rest takes. let bad = c.next_is_quoted.ensures.1 (rest, takes) in cc) has.1)) c.peek_text.ensures.ok
