use Rattle.std.proofs.Common.{◌≡◌, ◌+◌, ◌-◌, ◌/◌, arith}
use Rattle.dns_field_texts.proofs.Calendar.{years_at_most, year_after-is, years_end}
use Rattle.dns_field_texts.proofs.time.year_after.Goals as goal

pub loop-year-init : goal.loop-year-init
loop-year-init c =
    let e : 1 + c.args.days / 366 - 1 ≡ c.args.days / 366 = omega arith in
    record { from = omega arith; to = omega arith; begun = rw e (omega (arith, years_at_most (c.args.days / 366))) }

pub loop-year-preserved : goal.loop-year-preserved
loop-year-preserved c =
    record { from = omega arith; to = omega (arith, years_end (c.loop-year.year + 1 - 1) c.args.days (omega arith) (omega arith)); begun = omega arith }

pub returns-clause-is : goal.returns-clause-is
returns-clause-is c =
    let e : c.loop-year.year + 1 - 1 ≡ c.loop-year.year - 1 + 1 = omega arith in
    let h = rw e at c.days_before_year.ensures.is in
    year_after-is c.args.days c.loop-year.year c.loop-year.invariant.from c.loop-year.invariant.to c.loop-year.invariant.begun (omega (arith, h))
