use Rattle.std.proofs.Common.{◌≡◌, ◌+◌, ◌-◌, arith}
use Rattle.dns_field_texts.specs.Time.{days_of_months}
use Rattle.dns_field_texts.proofs.Calendar.{month_after-is}
use Rattle.dns_field_texts.proofs.time.month_after.Goals as goal

pub loop-month-init : goal.loop-month-init
unfolding days_of_months
loop-month-init c = record { from = omega arith; to = omega arith; begun = omega arith }

pub returns-else-days_before_month-days-clause-is : goal.returns-else-days_before_month-days-clause-is
returns-else-days_before_month-days-clause-is c =
    let e : c.loop-month.month + 1 - 1 ≡ c.loop-month.month = omega arith in
    let h = rw e at c.days_before_month.ensures.is in
    month_after-is c.args.year c.args.days c.loop-month.month c.loop-month.invariant.from c.loop-month.invariant.to c.loop-month.invariant.begun
    (λ _. omega (arith, h))

pub returns-after-loop-month-clause-is : goal.returns-after-loop-month-clause-is
returns-after-loop-month-clause-is c =
    month_after-is c.args.year c.args.days c.loop-month.month c.loop-month.invariant.from c.loop-month.invariant.to c.loop-month.invariant.begun
    (λ early. absurd (omega (arith, early)))
