-- Times of signatures as text: in digits as a date and a time of day in UTC, or as the number of seconds since the beginning of 1970 (RFC 4034,
-- section 3.2).
use Rattle.std.specs.Prelude.{ℕ, pos, ◌-ℤ◌, unsigned_abs, zero, suc, ◌+◌, ◌-◌, ◌*◌, ◌/◌, ◌%◌, ◌^◌, Bool, not, ◌&&◌, ◌||◌, ◌==◌, nat_le, if◌then◌else◌, List, [], ◌∷◌, ◌++◌, length, slice_range, Option, Some, None}
use Rattle.std.specs.Char.{is_ascii_digit}
use Rattle.std.specs.Int.{int_rem_euclid}
use Rattle.std.specs.List.{list_all}
use Rattle.std.specs.Str.Parse.{digits_value}
use Rattle.dns_values.specs.Mnemonic.{number_spelled}
use Rattle.dns_field_texts.specs.declared.time.Moment.{Moment}

-- every fourth year, but of the centuries only every fourth
abbrev pub is_leap_year : ℕ → Bool
is_leap_year year = (year % 4 == 0) && (not (year % 100 == 0) || (year % 400 == 0))

abbrev pub days_in_year : ℕ → ℕ
days_in_year year = if is_leap_year year then 366 else 365

-- thirty days have September, April, June and November
abbrev pub days_in_month : ℕ → ℕ → ℕ
days_in_month year month =
    if month == 2 then (if is_leap_year year then 29 else 28)
    else (if (month == 4) || (month == 6) || (month == 9) || (month == 11) then 30 else 31)

-- the days of that number of years from the year 1 on, in the Gregorian calendar, also before it was in use
unfoldable pub days_of_years : ℕ → ℕ
days_of_years zero = 0
days_of_years (suc count) = days_of_years count + days_in_year (suc count)

-- the days of the first months of the year
unfoldable pub days_of_months : ℕ → ℕ → ℕ
days_of_months year zero = 0
days_of_months year (suc count) = days_of_months year count + days_in_month year (suc count)

abbrev pub is_from_to : ℕ → ℕ → ℕ → Bool
is_from_to low high number = nat_le low number && nat_le number high

-- whether the calendar has this date from the year 1 to 9999, and a day has this time; there are no leap seconds
abbrev pub is_moment : Moment → Bool
is_moment moment =
    is_from_to 1 9999 moment.year && is_from_to 1 12 moment.month
    && is_from_to 1 (days_in_month moment.year moment.month) moment.day
    && nat_le moment.hour 23 && nat_le moment.minute 59 && nat_le moment.second 59

-- how many days are before the date, from 1 January of the year 1 on
unfoldable pub day_number : Moment → ℕ
day_number moment = days_of_years (moment.year - 1) + days_of_months moment.year (moment.month - 1) + (moment.day - 1)

-- how many seconds are before the moment, from the beginning of the year 1 on
unfoldable pub seconds_before : Moment → ℕ
seconds_before moment = 86400 * day_number moment + 3600 * moment.hour + 60 * moment.minute + moment.second

-- the beginning of 1970
unfoldable pub epoch : Moment
epoch = record { year = 1970; month = 1; day = 1; hour = 0; minute = 0; second = 0 }

-- the time of a moment: the seconds from the beginning of 1970 to it, which are negative for an earlier one, modulo 2^32
unfoldable pub time_of : Moment → ℕ
time_of moment = unsigned_abs (int_rem_euclid (pos (seconds_before moment) -ℤ pos (seconds_before epoch)) (pos (2 ^ 32)))

-- the moment that 14 digits write: YYYYMMDDHHmmSS
unfoldable pub moment_of : List ℕ → Moment
moment_of text =
    record {
      year = digits_value 10 (slice_range text 0 4);
      month = digits_value 10 (slice_range text 4 6);
      day = digits_value 10 (slice_range text 6 8);
      hour = digits_value 10 (slice_range text 8 10);
      minute = digits_value 10 (slice_range text 10 12);
      second = digits_value 10 (slice_range text 12 14);
    }

-- the time of the moment that 14 digits write
unfoldable pub moment_read : List ℕ → Option ℕ
moment_read text =
    if list_all is_ascii_digit text && is_moment (moment_of text)
    then Some (time_of (moment_of text))
    else None

-- the time that a text is of: 14 digits are a moment, and up to ten are the number
unfoldable pub time_read : List ℕ → Option ℕ
time_read text =
    if length text == 14 then moment_read text
    else (if nat_le (length text) 10 then number_spelled (2 ^ 32) text else None)

-- the greatest count up to the limit for which the function is at most that number
unfoldable pub greatest : (ℕ → ℕ) → ℕ → ℕ → ℕ
greatest of number zero = 0
greatest of number (suc limit) = if nat_le (of (suc limit)) number then suc limit else greatest of number limit

-- the year, up to 2106, after that number of days from the year 1 on, and the month after that number of days of the year
unfoldable pub year_after : ℕ → ℕ
year_after days = 1 + greatest days_of_years days 2105

unfoldable pub month_after : ℕ → ℕ → ℕ
month_after year days = 1 + greatest (days_of_months year) days 11

-- the moment after that number of seconds from the beginning of 1970 on
unfoldable pub moment_after : ℕ → Moment
moment_after time =
    let days = day_number epoch + time / 86400 in
    let year = year_after days in
    let rest = days - days_of_years (year - 1) in
    let month = month_after year rest in
    record {
      year = year;
      month = month;
      day = rest - days_of_months year (month - 1) + 1;
      hour = time % 86400 / 3600;
      minute = time % 3600 / 60;
      second = time % 60;
    }

-- a number below 100 in two digits
abbrev pub two_digits : ℕ → List ℕ
two_digits number = (48 + number / 10) ∷ (48 + number % 10) ∷ []

-- a date in eight digits, and a time of day in six
unfoldable pub date_written : ℕ → ℕ → ℕ → List ℕ
date_written year month day = two_digits (year / 100) ++ two_digits (year % 100) ++ two_digits month ++ two_digits day

unfoldable pub clock_written : ℕ → ℕ → ℕ → List ℕ
clock_written hour minute second = two_digits hour ++ two_digits minute ++ two_digits second

-- a moment in 14 digits
unfoldable pub moment_written : Moment → List ℕ
moment_written moment =
    date_written moment.year moment.month moment.day ++ clock_written moment.hour moment.minute moment.second

-- how a time is written
unfoldable pub time_written : ℕ → List ℕ
time_written time = moment_written (moment_after time)
