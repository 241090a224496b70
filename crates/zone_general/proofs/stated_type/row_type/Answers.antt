use Rattle.zone_general.proofs.RowTypes.{goes_on, none_found, type_found}
use Rattle.zone_general.proofs.stated_type.row_type.Goals as goal

pub returns-in-Some-clause-some : goal.returns-in-Some-clause-some
returns-in-Some-clause-some c =
    type_found c.args.row c.from-index.result c.from-index.ensures c.loop-index.index c.loop-index.auto.index c.loop-index.invariant _ c.loop-index-test.true
    (λ is. let yes = c.is_directive.ensures.1 is in cc) c.in-Some.ensures.some.0 c.to_int.ensures c.in-Some.ensures.some.1

pub loop-index-preserved : goal.loop-index-preserved
loop-index-preserved c =
    goes_on c.args.row c.from-index.result c.from-index.ensures c.loop-index.index c.loop-index.auto.index c.loop-index.invariant _ c.loop-index-test.true
    c.in_default.ensures.none

pub returns-clause-none : goal.returns-clause-none
returns-clause-none c =
    none_found c.args.row c.from-index.result c.from-index.ensures c.loop-index.index c.loop-index.auto.index c.loop-index.invariant c.loop-index-test.false
