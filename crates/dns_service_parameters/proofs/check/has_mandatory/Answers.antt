use Rattle.std.proofs.Common.{◌≡◌, ◌≢◌, ℕ, length, ap, arith}
use Rattle.std.proofs.lemmas.Bool.Decides.{nat_tests}
use Rattle.std.proofs.lemmas.List.{nil_from_length}
use Rattle.dns_service_parameters.proofs.ServiceKeys.{none_listed, nothing_listed, wanted_end, wanted_here, wanted_step}
use Rattle.dns_service_parameters.proofs.check.has_mandatory.Goals as goal

pub returns-in_default : goal.returns-in_default
returns-in_default c = λ parameters each ascend written. (λ yes. nothing_listed parameters each written c.in_default.ensures.none, λ all. cc)

pub returns-then-first_key-ne0 : goal.returns-then-first_key-ne0
returns-then-first_key-ne0 c = λ parameters each ascend written.
    let not : c.in-Some.first_key ≢ 0 = c.if-first_key-ne0.true in
    (λ yes. none_listed parameters each ascend written c.in-Some.ensures.some not, λ all. cc)

pub loop-key-init : goal.loop-key-init
loop-key-init c = λ parameters each ascend written. wanted_here parameters each ascend written c.in-Some.ensures.some c.if-first_key-ne0.false

pub loop-key-preserved : goal.loop-key-preserved
loop-key-preserved c = λ parameters each ascend written.
    wanted_step (c.loop-key.invariant parameters each ascend written) c.in-Some-split_part.ensures.some c.behind_key-wanted.ensures

pub returns : goal.returns
returns c = λ parameters each ascend written.
    let ends = wanted_end (c.loop-key.invariant parameters each ascend written) c.in_default-split_part.ensures.none in
    let wanted = c.loop-key.wanted.now in (
      λ yes. let none : length wanted ≡ 0 = grind (arith, nat_tests) in ends.1 (nil_from_length wanted none),
      λ all. let none : length wanted ≡ 0 = ap (length {A = ℕ}) (ends.0 all) in grind (arith, nat_tests),
    )
