-- Facts on moments: what is written of a time is a moment of the calendar, and reads as the time.
use Rattle.std.proofs.Common.{◌≡◌, ◌<◌, ◌≤◌, ◌+◌, ◌-◌, ◌*◌, ◌/◌, ◌%◌, ◌^◌, ◌&&◌, ℕ, suc, true, false, cond, arith, refl, add-one, nat_le, List, [], ◌++◌, Some, ap, ◌∙◌}
use Rattle.std.specs.Prelude.{pos, ◌-ℤ◌}
use Rattle.std.specs.Char.{digit_value, is_ascii_digit}
use Rattle.std.specs.List.{list_all}
use Rattle.std.specs.Str.Parse.{digits_value}
use Rattle.std.proofs.lemmas.Bool.Decides.{nat_tests}
use Rattle.std.proofs.lemmas.Int.{ints}
use Rattle.dns_field_texts.specs.declared.time.Moment.{Moment}
use Rattle.dns_field_texts.proofs.Calendar.{IsPlace, greatest_place, years_to_2106, epoch_day, epoch_second}
use Rattle.dns_field_texts.specs.Time.{is_moment, is_from_to, days_in_year, days_in_month, is_leap_year, days_of_years, days_of_months, day_number, seconds_before, epoch, time_of, greatest, year_after, month_after, moment_after, moment_of, moment_read, time_read, two_digits, date_written, clock_written, moment_written, time_written}

-- the bounds of a moment
pub record AreInBounds (year month day hour minute second most : ℕ) : Type 0 where
  pub year_from : 1 ≤ year
  pub year_to : year ≤ 9999
  pub month_from : 1 ≤ month
  pub month_to : month ≤ 12
  pub day_from : 1 ≤ day
  pub day_to : day ≤ most
  pub hour_to : hour ≤ 23
  pub minute_to : minute ≤ 59
  pub second_to : second ≤ 59

abbrev pub InCalendar : Moment → Type 0
InCalendar moment =
    AreInBounds moment.year moment.month moment.day moment.hour moment.minute moment.second (days_in_month moment.year moment.month)

pub month_most : (year month : ℕ) → days_in_month year month ≤ 31
month_most year month = grind (arith, nat_tests)

test_bounds : (year month day hour minute second most : ℕ)
    → (is_from_to 1 9999 year && is_from_to 1 12 month && is_from_to 1 most day && nat_le hour 23 && nat_le minute 59 && nat_le second 59) ≡ true
    → AreInBounds year month day hour minute second most
test_bounds year month day hour minute second most exists = record {
  year_from = grind (arith, nat_tests);
  year_to = grind (arith, nat_tests);
  month_from = grind (arith, nat_tests);
  month_to = grind (arith, nat_tests);
  day_from = grind (arith, nat_tests);
  day_to = grind (arith, nat_tests);
  hour_to = grind (arith, nat_tests);
  minute_to = grind (arith, nat_tests);
  second_to = grind (arith, nat_tests);
}

bounds_test : (year month day hour minute second most : ℕ) → AreInBounds year month day hour minute second most
    → (is_from_to 1 9999 year && is_from_to 1 12 month && is_from_to 1 most day && nat_le hour 23 && nat_le minute 59 && nat_le second 59) ≡ true
bounds_test year month day hour minute second most inside =
    let a = inside.year_from in let b = inside.year_to in let c = inside.month_from in let d = inside.month_to in
    let e = inside.day_from in let f = inside.day_to in let g = inside.hour_to in let h = inside.minute_to in let i = inside.second_to in
    grind (arith, nat_tests)

pub in_calendar : (moment : Moment) → is_moment moment ≡ true → InCalendar moment
in_calendar moment exists = test_bounds _ _ _ _ _ _ (days_in_month moment.year moment.month) exists

pub is_moment-in : (moment : Moment) → InCalendar moment → is_moment moment ≡ true
is_moment-in moment inside = bounds_test _ _ _ _ _ _ (days_in_month moment.year moment.month) inside

-- the year after a number of days has begun by then, and the next one has not
year_begun : (days : ℕ) → days < 768873 → IsPlace days_of_years days 2105 (greatest days_of_years days 2105)
unfolding days_of_years
year_begun days small = greatest_place days_of_years days 2105 (omega arith) (omega (arith, years_to_2106))

-- the same of the month
all_months : (year : ℕ) → days_of_months year 12 ≡ days_in_year year
unfolding days_of_months
all_months year =
    elim (is_leap_year year) as (λ leap. 31 + cond leap 29 28 + 31 + 30 + 31 + 30 + 31 + 31 + 30 + 31 + 30 + 31 ≡ cond leap 366 365) [
      | true ↦ refl
      | false ↦ refl
    ]

month_begun : (year days : ℕ) → days < days_in_year year → IsPlace (days_of_months year) days 11 (greatest (days_of_months year) days 11)
unfolding days_of_months
month_begun year days within = greatest_place (days_of_months year) days 11 (omega arith) (omega (arith, all_months year))

-- the year after a number of days, and the days of it that are over
pub record IsYearAfter (days year : ℕ) : Type 0 where
  pub from : 1 ≤ year
  pub to : year ≤ 2106
  pub begun : days_of_years (year - 1) ≤ days
  pub goes_on : days < days_of_years (year - 1) + days_in_year year

year_at : (days count : ℕ) → IsPlace days_of_years days 2105 count → IsYearAfter days (1 + count)
unfolding days_of_years
year_at days count place =
    let e : 1 + count - 1 ≡ count = omega arith in
    let f : 1 + count ≡ suc count = omega arith in
    let next = rw add-one at place.goes_on in
    record { from = omega arith; to = omega (arith, place.within); begun = rw e place.begun; goes_on = rw (e, f) next }

pub year_parts : (days : ℕ) → days < 768873 → IsYearAfter days (year_after days)
unfolding year_after
year_parts days small = year_at days _ (year_begun days small)

-- the same of the month
pub record IsMonthAfter (year days month : ℕ) : Type 0 where
  pub from : 1 ≤ month
  pub to : month ≤ 12
  pub begun : days_of_months year (month - 1) ≤ days
  pub goes_on : days < days_of_months year (month - 1) + days_in_month year month

month_at : (year days count : ℕ) → IsPlace (days_of_months year) days 11 count → IsMonthAfter year days (1 + count)
unfolding days_of_months
month_at year days count place =
    let e : 1 + count - 1 ≡ count = omega arith in
    let f : 1 + count ≡ suc count = omega arith in
    let next = rw add-one at place.goes_on in
    record { from = omega arith; to = omega (arith, place.within); begun = rw e place.begun; goes_on = rw (e, f) next }

pub month_parts : (year days : ℕ) → days < days_in_year year → IsMonthAfter year days (month_after year days)
unfolding month_after
month_parts year days within = month_at year days _ (month_begun year days within)

-- the days of the year that are over
rest_in : (days year : ℕ) → IsYearAfter days year → days - days_of_years (year - 1) < days_in_year year
rest_in days year parts = omega (arith, parts.begun, parts.goes_on)

few_days : (time : ℕ) → time < 2 ^ 32 → day_number epoch + time / 86400 < 768873
few_days time small = omega (arith, epoch_day)

-- the parts of a day
clock : (seconds : ℕ) → 86400 * (seconds / 86400) + 3600 * (seconds % 86400 / 3600) + 60 * (seconds % 3600 / 60) + seconds % 60 ≡ seconds
clock seconds = omega arith

exists_at : (seconds days year rest month : ℕ) → IsYearAfter days year → IsMonthAfter year rest month
    → AreInBounds year month (rest - days_of_months year (month - 1) + 1) (seconds % 86400 / 3600) (seconds % 3600 / 60) (seconds % 60)
    (days_in_month year month)
exists_at seconds days year rest month of_year of_month = record {
  year_from = of_year.from;
  year_to = omega (arith, of_year.to);
  month_from = of_month.from;
  month_to = of_month.to;
  day_from = omega arith;
  day_to = omega (arith, of_month.begun, of_month.goes_on);
  hour_to = omega arith;
  minute_to = omega arith;
  second_to = omega arith;
}

pub moment_exists : (time : ℕ) → time < 2 ^ 32 → is_moment (moment_after time) ≡ true
unfolding moment_after
moment_exists time small =
    let of_year = year_parts (day_number epoch + time / 86400) (few_days time small) in
    let of_month = month_parts _ _ (rest_in _ _ of_year) in
    is_moment-in (moment_after time) (exists_at time _ _ _ _ of_year of_month)

-- the days of a moment are those that it is after
days_back : (days before rest within : ℕ) → before ≤ days → rest ≡ days - before → within ≤ rest
    → before + within + (rest - within + 1 - 1) ≡ days
days_back days before rest within begun is begun_month = omega arith

moment_back : (time : ℕ) → time < 2 ^ 32 → seconds_before (moment_after time) ≡ 62135596800 + time
unfolding moment_after seconds_before day_number
moment_back time small =
    let of_year = year_parts (day_number epoch + time / 86400) (few_days time small) in
    let of_month = month_parts _ _ (rest_in _ _ of_year) in
    by_days _ (days_back _ _ _ _ of_year.begun refl of_month.begun)
  where
    by_days : (number : ℕ) → number ≡ day_number epoch + time / 86400
        → 86400 * number + 3600 * (time % 86400 / 3600) + 60 * (time % 3600 / 60) + time % 60 ≡ 62135596800 + time
    by_days number is = let day = is ∙ ap (λ n. n + time / 86400) epoch_day in omega (arith, day, clock time)

-- a time is that of the moment after it
time_after : (moment : Moment) (time : ℕ) → time < 2 ^ 32 → seconds_before moment ≡ 62135596800 + time → time_of moment ≡ time
unfolding time_of
time_after moment time small is =
    let whole : time % 2 ^ 32 ≡ time = omega arith in
    let from : pos (62135596800 + time) -ℤ pos 62135596800 ≡ pos time = omega (arith, ints) in
    rw (is, epoch_second, from) whole

-- digits
digit_back : (digit : ℕ) → digit < 10 → digit_value (48 + digit) ≡ digit
digit_back digit small = grind (arith, nat_tests)

digit_is : (digit : ℕ) → digit < 10 → is_ascii_digit (48 + digit) ≡ true
digit_is digit small = grind (arith, nat_tests)

two_back : (number : ℕ) → number < 100 → digits_value 10 (two_digits number) ≡ number
two_back number small =
    let high = digit_back (number / 10) (omega arith) in
    let low = digit_back (number % 10) (omega arith) in
    omega (arith, high, low)

four_back : (number : ℕ) → number < 10000 → digits_value 10 (two_digits (number / 100) ++ two_digits (number % 100)) ≡ number
four_back number small =
    let a = digit_back (number / 100 / 10) (omega arith) in
    let b = digit_back (number / 100 % 10) (omega arith) in
    let c = digit_back (number % 100 / 10) (omega arith) in
    let d = digit_back (number % 100 % 10) (omega arith) in
    omega (arith, a, b, c, d)

two_are : (number : ℕ) (more : List ℕ) → number < 100 → list_all is_ascii_digit more ≡ true
    → list_all is_ascii_digit (two_digits number ++ more) ≡ true
two_are number more small rest = rw (digit_is (number / 10) (omega arith), digit_is (number % 10) (omega arith)) rest

written_are_digits : (moment : Moment) → InCalendar moment → list_all is_ascii_digit (moment_written moment) ≡ true
unfolding moment_written date_written clock_written
written_are_digits moment inside =
    let few = month_most moment.year moment.month in
    let seconds : List ℕ = two_digits moment.second ++ [] in
    let minutes : List ℕ = two_digits moment.minute ++ seconds in
    let hours : List ℕ = two_digits moment.hour ++ minutes in
    let days : List ℕ = two_digits moment.day ++ hours in
    let months : List ℕ = two_digits moment.month ++ days in
    let years : List ℕ = two_digits (moment.year % 100) ++ months in
    two_are (moment.year / 100) years (omega (arith, inside.year_to)) (two_are (moment.year % 100) months (omega arith)
    (two_are moment.month days (omega (arith, inside.month_to)) (two_are moment.day hours (omega (arith, inside.day_to, few))
    (two_are moment.hour minutes (omega (arith, inside.hour_to)) (two_are moment.minute seconds (omega (arith, inside.minute_to))
    (two_are moment.second [] (omega (arith, inside.second_to)) refl))))))

-- the digits of a moment are of it
moment_reads : (moment : Moment) → InCalendar moment → moment_of (moment_written moment) ≡ moment
unfolding moment_of moment_written date_written clock_written
moment_reads moment inside =
    let few = month_most moment.year moment.month in
    let a = four_back moment.year (omega (arith, inside.year_to)) in
    let b = two_back moment.month (omega (arith, inside.month_to)) in
    let c = two_back moment.day (omega (arith, inside.day_to, few)) in
    let d = two_back moment.hour (omega (arith, inside.hour_to)) in
    let e = two_back moment.minute (omega (arith, inside.minute_to)) in
    let f = two_back moment.second (omega (arith, inside.second_to)) in
    same moment.year moment.month moment.day moment.hour moment.minute moment.second _ _ _ _ _ _ a b c d e f
  where
    same : (y m d h n s y' m' d' h' n' s' : ℕ) → y' ≡ y → m' ≡ m → d' ≡ d → h' ≡ h → n' ≡ n → s' ≡ s
        → ◌≡◌ {A = Moment} (record { year = y'; month = m'; day = d'; hour = h'; minute = n'; second = s' })
        (record { year = y; month = m; day = d; hour = h; minute = n; second = s })
    same y m d h n s y' m' d' h' n' s' is_y is_m is_d is_h is_n is_s = cc

moment_read-is : (text : List ℕ) (moment : Moment) → list_all is_ascii_digit text ≡ true → moment_of text ≡ moment
    → is_moment moment ≡ true → moment_read text ≡ Some (time_of moment)
unfolding moment_read
moment_read-is text moment digits is exists = rw (digits, is, exists) refl

-- what is written of a time reads as it
pub time_reads_back : (time : ℕ) → time < 2 ^ 32 → time_read (time_written time) ≡ Some time
unfolding time_read time_written moment_written date_written clock_written
time_reads_back time small = by_moment (moment_after time) (moment_exists time small) (moment_back time small)
  where
    in_full : (moment : Moment) → time_read (moment_written moment) ≡ moment_read (moment_written moment)
    in_full moment = refl

    by_moment : (moment : Moment) → is_moment moment ≡ true → seconds_before moment ≡ 62135596800 + time
        → time_read (moment_written moment) ≡ Some time
    by_moment moment exists is =
        let inside = in_calendar moment exists in
        in_full moment ∙ moment_read-is (moment_written moment) moment (written_are_digits moment inside) (moment_reads moment inside) exists
        ∙ ap Some (time_after moment time small is)

pub ruleset time_reads_back_rules = (time_reads_back)
