use Rattle.std.proofs.Common.{◌≡◌, ◌-◌, arith, sym, subst, true}
use Rattle.dns_field_texts.specs.declared.time.Moment.{Moment}
use Rattle.dns_field_texts.specs.Time.{is_moment, moment_after}
use Rattle.dns_field_texts.proofs.Calendar.{epoch_day, year_days}
use Rattle.dns_field_texts.proofs.Moments.{moment_exists}
use Rattle.dns_field_texts.proofs.time.Moment.after.Goals as goal

pub month_after-month-requires : goal.month_after-month-requires
month_after-month-requires c = omega (arith, year_days (c.year_after-year.result - 1))

pub returns-clause-is : goal.returns-clause-is
unfolding moment_after
returns-clause-is c = let e = epoch_day in cc

pub returns-clause-exists : goal.returns-clause-exists
returns-clause-exists c =
    let P : Moment → Type 0 = λ moment. is_moment moment ≡ true in
    subst P (sym (returns-clause-is c)) (moment_exists c.args.time (omega arith))
