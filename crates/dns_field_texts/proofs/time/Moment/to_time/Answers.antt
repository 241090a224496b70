use Rattle.std.proofs.Common.{◌≡◌, ◌^◌, ◌∙◌, arith, ap, pos, ◌-ℤ◌}
use Rattle.std.specs.Int.{int_rem_euclid}
use Rattle.std.proofs.lemmas.Int.{ints}
use Rattle.dns_field_texts.specs.Time.{seconds_before, day_number, epoch, time_of}
use Rattle.dns_field_texts.proofs.Calendar.{epoch_second}
use Rattle.dns_field_texts.proofs.Moments.{InCalendar, in_calendar}
use Rattle.dns_field_texts.proofs.time.Moment.to_time.Goals as goal

pub returns : goal.returns
unfolding time_of seconds_before day_number
returns c =
    let bounds : InCalendar c.args.self.now = in_calendar c.args.self.now c.requires in
    let is : c.rem_euclid.result ≡ int_rem_euclid (pos (seconds_before c.args.self.now) -ℤ pos (seconds_before epoch)) (pos (2 ^ 32)) =
    c.rem_euclid.ensures.value ∙ ap (λ z. int_rem_euclid z (pos (2 ^ 32))) (omega (arith, ints, epoch_second)) in
    omega (arith, ints, is)
