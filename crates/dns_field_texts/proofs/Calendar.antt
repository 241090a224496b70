-- Facts on the calendar.
use Rattle.std.proofs.Common.{◌≡◌, ◌<◌, ◌≤◌, ◌+◌, ◌-◌, ◌*◌, ◌/◌, ◌&&◌, ℕ, zero, suc, Bool, true, false, cond, if◌then◌else◌, arith, refl, add-one, add-zero, add-suc, nat_le, nat_lt, List, [], ◌∷◌, length, slice_index_or, slice_range}
use Rattle.std.specs.Char.{digit_value}
use Rattle.std.specs.Str.Parse.{digits_value}
use Rattle.std.proofs.lemmas.Bool.Decides.{nat_tests}
use Rattle.dns_field_texts.specs.Time.{is_leap_year, days_in_year, days_of_years, days_of_months, day_number, seconds_before, epoch, greatest, year_after, month_after}

-- one more leap day for each year that is one
leap_step : (past : ℕ) → days_in_year (suc past) + past / 4 + past / 400 + suc past / 100 ≡ 365 + suc past / 4 + suc past / 400 + past / 100
leap_step past = grind (arith, nat_tests)

years_of : (past : ℕ) → days_of_years past + past / 100 ≡ 365 * past + past / 4 + past / 400
unfolding days_of_years
years_of zero = refl
years_of (suc past) = omega (arith, years_of past, leap_step past)

pub days_of_years-is : (past : ℕ) → 365 * past + past / 4 + past / 400 - past / 100 ≡ days_of_years past
days_of_years-is past = omega (arith, years_of past)

-- a year has at most 366 days, and a month at most 31
pub years_at_most : (count : ℕ) → days_of_years count ≤ 366 * count
unfolding days_of_years
years_at_most zero = omega arith
years_at_most (suc count) =
    let h : days_in_year (suc count) ≤ 366 = grind (arith, nat_tests) in
    omega (arith, years_at_most count, h)

pub next_year : (count : ℕ) → days_of_years count < days_of_years (count + 1)
unfolding days_of_years
next_year count =
    let h : 0 < days_in_year (suc count) = grind (arith, nat_tests) in
    rw add-one (omega (arith, h))

pub ruleset year_rules = (days_of_years-is, years_at_most)

-- the years and months pass
years_pass : (count more : ℕ) → days_of_years count ≤ days_of_years (count + more)
unfolding days_of_years
years_pass count zero = rw add-zero (omega arith)
years_pass count (suc more) = rw add-suc (omega (arith, years_pass count more))

months_pass : (year count more : ℕ) → days_of_months year count ≤ days_of_months year (count + more)
unfolding days_of_months
months_pass year count zero = rw add-zero (omega arith)
months_pass year count (suc more) = rw add-suc (omega (arith, months_pass year count more))

-- the greatest count is the one whose successor's value is too great
greatest-is : (of : ℕ → ℕ) (number count more : ℕ) → ((m k : ℕ) → of m ≤ of (m + k))
    → of count ≤ number → number < of (count + 1) → greatest of number (count + more) ≡ count
unfolding greatest
greatest-is of number zero zero mono begun goes_on = refl
greatest-is of number (suc count) zero mono begun goes_on = rw add-zero (grind (arith, nat_tests))
greatest-is of number count (suc more) mono begun goes_on =
    let h : number < of (suc (count + more)) = omega (arith, past) in
    let again = greatest-is of number count more mono begun goes_on in
    rw add-suc (grind (arith, nat_tests))
  where
    past : of (count + 1) ≤ of (suc (count + more))
    past = let e : count + 1 + more ≡ suc (count + more) = omega arith in rw e at (mono (count + 1) more)

-- the count's value is not past the number, and its successor's is
pub record IsPlace (of : ℕ → ℕ) (number limit count : ℕ) : Type 0 where
  pub within : count ≤ limit
  pub begun : of count ≤ number
  pub goes_on : number < of (count + 1)

pub greatest_place : (of : ℕ → ℕ) (number limit : ℕ) → of 0 ≤ number → number < of (limit + 1)
    → IsPlace of number limit (greatest of number limit)
unfolding greatest
greatest_place of number zero begun goes_on = record { within = omega arith; begun = begun; goes_on = goes_on }
greatest_place of number (suc limit) begun goes_on =
    elim (nat_le (of (suc limit)) number) as (λ v. nat_le (of (suc limit)) number ≡ v
    → IsPlace of number (suc limit) (if v then suc limit else greatest of number limit)) [
      | true ↦ (λ is. record { within = omega arith; begun = grind (arith, nat_tests); goes_on = goes_on })
      | false ↦ (λ is.
          let past : number < of (limit + 1) = rw add-one (grind (arith, nat_tests)) in
          let lower = greatest_place of number limit begun past in
          record { within = omega arith; begun = lower.begun; goes_on = lower.goes_on })
    ] refl

-- at the limit
greatest-limit : (of : ℕ → ℕ) (number limit : ℕ) → of limit ≤ number → greatest of number limit ≡ limit
unfolding greatest
greatest-limit of number zero begun = refl
greatest-limit of number (suc limit) begun = grind (arith, nat_tests)

pub year_after-is : (days year : ℕ) → 1 ≤ year → year ≤ 2106
    → days_of_years (year - 1) ≤ days → days < days_of_years (year - 1 + 1) → year ≡ year_after days
unfolding year_after
year_after-is days year from to begun goes_on =
    let h = greatest-is days_of_years days (year - 1) (2106 - year) years_pass begun goes_on in
    let e : year - 1 + (2106 - year) ≡ 2105 = omega arith in
    let g = rw e at h in
    omega (arith, g)

pub month_after-is : (year days month : ℕ) → 1 ≤ month → month ≤ 12
    → days_of_months year (month - 1) ≤ days → (month < 12 → days < days_of_months year month) → month ≡ month_after year days
unfolding month_after
month_after-is year days month from to begun goes_on = by_end (nat_lt month 12) refl
  where
    by_end : (early : Bool) → nat_lt month 12 ≡ early → month ≡ 1 + greatest (days_of_months year) days 11
    by_end true is =
        let before : month < 12 = grind (arith, nat_tests) in
        let e : month - 1 + 1 ≡ month = omega arith in
        let next : days < days_of_months year (month - 1 + 1) = rw e (goes_on before) in
        let h = greatest-is (days_of_months year) days (month - 1) (12 - month) (months_pass year) begun next in
        let f : month - 1 + (12 - month) ≡ 11 = omega arith in
        let g = rw f at h in
        omega (arith, g)
    by_end false is =
        let last : 12 ≤ month = grind (arith, nat_tests) in
        let e : month - 1 ≡ 11 = omega arith in
        let h = greatest-limit (days_of_months year) days 11 (rw e at begun) in
        omega (arith, h)

-- the days before each month
abbrev pub common_months : List ℕ
common_months = 0 ∷ 31 ∷ 59 ∷ 90 ∷ 120 ∷ 151 ∷ 181 ∷ 212 ∷ 243 ∷ 273 ∷ 304 ∷ 334 ∷ []

months_of : (year count : ℕ) → count < 12
    → days_of_months year count ≡ slice_index_or common_months count 0 + cond (nat_lt 1 count && is_leap_year year) 1 0
unfolding days_of_months
months_of year zero h = refl
months_of year (suc zero) h = refl
months_of year (suc (suc zero)) h =
    elim (is_leap_year year) as (λ leap. 31 + cond leap 29 28 ≡ 59 + cond leap 1 0) [ true ↦ refl | false ↦ refl ]
months_of year (suc (suc (suc zero))) h =
    elim (is_leap_year year) as (λ leap. 31 + cond leap 29 28 + 31 ≡ 90 + cond leap 1 0) [ true ↦ refl | false ↦ refl ]
months_of year (suc (suc (suc (suc zero)))) h =
    elim (is_leap_year year) as (λ leap. 31 + cond leap 29 28 + 31 + 30 ≡ 120 + cond leap 1 0) [ true ↦ refl | false ↦ refl ]
months_of year (suc (suc (suc (suc (suc zero))))) h =
    elim (is_leap_year year) as (λ leap. 31 + cond leap 29 28 + 31 + 30 + 31 ≡ 151 + cond leap 1 0) [ true ↦ refl | false ↦ refl ]
months_of year (suc (suc (suc (suc (suc (suc zero)))))) h =
    elim (is_leap_year year) as (λ leap. 31 + cond leap 29 28 + 31 + 30 + 31 + 30 ≡ 181 + cond leap 1 0) [ true ↦ refl | false ↦ refl ]
months_of year (suc (suc (suc (suc (suc (suc (suc zero))))))) h =
    elim (is_leap_year year) as (λ leap. 31 + cond leap 29 28 + 31 + 30 + 31 + 30 + 31 ≡ 212 + cond leap 1 0) [ true ↦ refl | false ↦ refl ]
months_of year (suc (suc (suc (suc (suc (suc (suc (suc zero)))))))) h =
    elim (is_leap_year year) as (λ leap. 31 + cond leap 29 28 + 31 + 30 + 31 + 30 + 31 + 31 ≡ 243 + cond leap 1 0) [ true ↦ refl | false ↦ refl ]
months_of year (suc (suc (suc (suc (suc (suc (suc (suc (suc zero))))))))) h =
    elim (is_leap_year year) as (λ leap. 31 + cond leap 29 28 + 31 + 30 + 31 + 30 + 31 + 31 + 30 ≡ 273 + cond leap 1 0) [ true ↦ refl | false ↦ refl ]
months_of year (suc (suc (suc (suc (suc (suc (suc (suc (suc (suc zero)))))))))) h =
    elim (is_leap_year year) as (λ leap. 31 + cond leap 29 28 + 31 + 30 + 31 + 30 + 31 + 31 + 30 + 31 ≡ 304 + cond leap 1 0) [ true ↦ refl | false ↦ refl ]
months_of year (suc (suc (suc (suc (suc (suc (suc (suc (suc (suc (suc zero))))))))))) h =
    elim (is_leap_year year) as (λ leap. 31 + cond leap 29 28 + 31 + 30 + 31 + 30 + 31 + 31 + 30 + 31 + 30 ≡ 334 + cond leap 1 0) [ true ↦ refl | false ↦ refl ]
months_of year (suc (suc (suc (suc (suc (suc (suc (suc (suc (suc (suc (suc count)))))))))))) h = absurd (omega arith)

pub months-leap : (year month : ℕ) → 2 < month → month ≤ 12 → is_leap_year year ≡ true
    → slice_index_or common_months (month - 1) 0 + 1 ≡ days_of_months year (month - 1)
months-leap year month late within leap =
    let h = months_of year (month - 1) (omega arith) in
    grind (arith, nat_tests)

pub months-common : (year month : ℕ) → 1 ≤ month → month ≤ 12 → (2 < month → is_leap_year year ≡ false)
    → slice_index_or common_months (month - 1) 0 ≡ days_of_months year (month - 1)
months-common year month from within common =
    let h = months_of year (month - 1) (omega arith) in
    grind (arith, nat_tests)

pub ruleset month_rules = (months-leap, months-common)

-- four digits are two and two
pub four_digits : (text : List ℕ) → 4 ≤ length text
    → digits_value 10 (slice_range text 0 4) ≡ 100 * digits_value 10 (slice_range text 0 2) + digits_value 10 (slice_range text 2 4)
four_digits [] long = absurd (omega arith)
four_digits (a ∷ []) long = absurd (omega arith)
four_digits (a ∷ b ∷ []) long = absurd (omega arith)
four_digits (a ∷ b ∷ c ∷ []) long = absurd (omega arith)
four_digits (a ∷ b ∷ c ∷ d ∷ more) long = value (digit_value a) (digit_value b) (digit_value c) (digit_value d)
  where
    value : (p q r s : ℕ) → (((0 * 10 + p) * 10 + q) * 10 + r) * 10 + s ≡ 100 * ((0 * 10 + p) * 10 + q) + ((0 * 10 + r) * 10 + s)
    value p q r s = omega arith

pub ruleset digit_rules = (four_digits)

-- the years to 2106 have more days than there are before a time's end
pub years_to_2106 : days_of_years 2106 ≡ 769200
unfolding days_of_years
years_to_2106 = refl

pub years_end : (count days : ℕ) → days < 768873 → days_of_years count ≤ days → count ≤ 2105
years_end count days small begun = by_order (nat_le count 2105) refl
  where
    by_order : (within : Bool) → nat_le count 2105 ≡ within → count ≤ 2105
    by_order true is = grind (arith, nat_tests)
    by_order false is =
        let far : 2106 ≤ count = grind (arith, nat_tests) in
        let e : 2106 + (count - 2106) ≡ count = omega arith in
        let h = rw e at (years_pass 2106 (count - 2106)) in
        absurd (omega (arith, years_to_2106, h))

-- the days and the seconds before 1970
pub epoch_day : day_number epoch ≡ 719162
unfolding day_number epoch days_of_years days_of_months
epoch_day = refl

pub epoch_second : seconds_before epoch ≡ 62135596800
unfolding seconds_before day_number epoch days_of_years days_of_months
epoch_second = refl

pub year_days : (count : ℕ) → days_of_years (count + 1) ≤ days_of_years count + 366
unfolding days_of_years
year_days count =
    let h : days_in_year (suc count) ≤ 366 = grind (arith, nat_tests) in
    rw add-one (omega (arith, h))
