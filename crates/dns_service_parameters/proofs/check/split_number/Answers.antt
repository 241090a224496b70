use Rattle.std.proofs.Common.{◌∷◌, ◌++◌, sym, ◌∙◌, ap}
use Rattle.dns_service_parameters.proofs.ServiceParts.{number_octets}
use Rattle.dns_service_parameters.proofs.check.split_number.Goals as goal

pub returns-clause-some : goal.returns-clause-some
returns-clause-some c =
    let first = c.in_ok-high.ensures.some in
    let second = c.in_ok-low.ensures.some in
    let whole = first.1 ∙ ap (λ l. c.in_ok-high.high ∷ l) second.1 in
    let number = number_octets _ _ c.from_be_bytes.result first.0 second.0 c.from_be_bytes.ensures in
    (number.0, whole ∙ ap (λ l. l ++ c.in_ok-low.rest.now) (sym number.1))
