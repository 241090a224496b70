use Rattle.zone_general.proofs.LongerRows.{if_none}
use Rattle.zone_general.proofs.longer_reader.further_type.Goals as goal

pub returns-in_err-kind-clause-none : goal.returns-in_err-kind-clause-none
returns-in_err-kind-clause-none c =
    if_none c.from_residual.result (λ front word rtype data' has. absurd (c.in_err-kind.ensures.none front word rtype data' has))

pub returns-then-stands-clause-none : goal.returns-then-stands-clause-none
returns-then-stands-clause-none c = c.stands.ensures.0 c.if-stands.true
