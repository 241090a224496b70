use Rattle.std.proofs.Common.{rules, ◌≡◌, ◌<◌, ◌∷◌, get_or, subst, arith}
use Rattle.dns_service_parameters.proofs.check.split_octet.Goals as goal

pub returns-clause-some : goal.returns-clause-some
returns-clause-some c =
    let whole : c.args.octets.now ≡ c.in_ok-first.field-0-0.now ∷ c.in_ok-first.rest.now = search rules in
    let bound : get_or c.args.octets.now 0 0 < 256 = omega (arith, c.type_inv.octets 0) in
    let first = subst (λ l. get_or l 0 0 < 256) whole bound in (omega (arith, first), whole)
