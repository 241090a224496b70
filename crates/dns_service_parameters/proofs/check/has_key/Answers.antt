use Rattle.dns_service_parameters.proofs.ServiceKeys.{key_behind, key_found, key_here, key_none}
use Rattle.dns_service_parameters.proofs.check.has_key.Goals as goal

pub loop-key-init : goal.loop-key-init
loop-key-init c = λ parameters each written. key_here parameters each written

pub returns-then-key-wanted : goal.returns-then-key-wanted
returns-then-key-wanted c = λ parameters each ascend written.
    (λ yes. key_found (c.loop-key.invariant parameters each written) c.in-Some.ensures.some c.if-key-wanted.true, λ among. cc)

pub loop-key-preserved : goal.loop-key-preserved
loop-key-preserved c = λ parameters each written.
    key_behind (c.loop-key.invariant parameters each written) c.in-Some.ensures.some c.if-key-wanted.false

pub returns : goal.returns
returns c = λ parameters each ascend written.
    (λ yes. absurd (cc), λ among. absurd (key_none (c.loop-key.invariant parameters each written) c.in_default.ensures.none among))
