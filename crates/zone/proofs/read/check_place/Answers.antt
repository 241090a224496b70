use Rattle.std.proofs.Common.{◌≡◌, ◌≢◌, arith, refl, sym, subst, ◌∙◌, false, true}
use Rattle.std.proofs.lemmas.Bool.{eqb-true}
use Rattle.std.proofs.lemmas.Bool.Decides.{nat_tests}
use Rattle.zone.specs.declared.zone_error.ZoneError.TheVariants as zone_error
use Rattle.zone.specs.Reading.{BreaksRule}
use Rattle.zone.proofs.read.check_place.Goals as goal

pub returns-else-is_soa-clause-err : goal.returns-else-is_soa-clause-err
returns-else-is_soa-clause-err c =
    let other : c.args.record.now.rtype ≢ 6 = λ is. absurd (grind (arith, nat_tests, is, c.is_soa.ensures, c.if-is_soa.false)) in
    subst (λ a. BreaksRule c.args.number a c.args.record.now (zone_error.FirstNotSoa c.args.number)) (sym c.in_default.is)
    (refl, c.requires, other)

pub returns-then-is_soa-2-clause-err : goal.returns-then-is_soa-2-clause-err
returns-then-is_soa-2-clause-err c =
    subst (λ a. BreaksRule c.args.number a c.args.record.now (zone_error.SecondSoa c.args.number)) (sym c.in-Some.is)
    (refl, c.requires, eqb-true c.args.record.now.rtype 6 (sym c.is_soa-2.ensures ∙ c.if-is_soa-2.true))

pub returns-then-not-is_under-clause-err : goal.returns-then-not-is_under-clause-err
returns-then-not-is_under-clause-err c =
    let other : c.args.record.now.rtype ≢ 6 = λ is. absurd (grind (arith, nat_tests, is, c.is_soa-2.ensures, c.if-is_soa-2.false)) in
    subst (λ a. BreaksRule c.args.number a c.args.record.now (zone_error.OutOfZone c.args.number)) (sym c.in-Some.is)
    (refl, c.requires, other, (λ under. let bad : false ≡ true = sym c.if-not-is_under.true ∙ c.is_under.ensures.1 under in absurd cc))
