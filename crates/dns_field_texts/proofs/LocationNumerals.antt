-- Numerals of locations: what they begin with, and that each writes one number.
use Rattle.std.proofs.Common.{◌≡◌, ◌≢◌, ◌+◌, ◌-◌, ◌*◌, ◌/◌, ◌<◌, ◌≤◌, ◌^◌, ◌⊎◌, inl, inr, ℕ, zero, suc, Bool, true, false, List, [], ◌∷◌, ◌++◌, length, take, refl, sym, ◌∙◌, ap, subst, arith, append-nil, length-append}
use Rattle.std.proofs.lemmas.Bool.Decides.{nat_tests}
use Rattle.std.proofs.lemmas.Grind.{common_steps}
use Rattle.std.specs.Prelude.{codes, replicate, Option, None, Some, IfNone}
use Rattle.std.specs.Char.{digit_value, is_ascii_digit}
use Rattle.std.specs.List.{AllByRecursion, list_all}
use Rattle.std.specs.Str.Parse.{digits_value, digits_value_after}
use Rattle.dns_field_texts.specs.LocationText.{AreDigits, IsFraction, IsMetres, IsNumeral}
use Rattle.dns_field_texts.specs.LocationParts.{GoesOnWith, IsAltitude, IsDecimal, IsLength, IsPart}
use Rattle.dns_field_texts.specs.Cut.{IsWithout}

-- one digit more
pub digit_is : (d : ℕ) → is_ascii_digit d ≡ true → digit_value d ≡ d - 48
digit_is d digit = grind (arith, nat_tests)

pub digit_near : (d : ℕ) → is_ascii_digit d ≡ true → (48 ≤ d) × (d ≤ 57)
digit_near d digit = (grind (arith, nat_tests), grind (arith, nat_tests))

pub all_first : (d : ℕ) (ds : List ℕ) → list_all is_ascii_digit (d ∷ ds) ≡ true → is_ascii_digit d ≡ true
all_first d ds all = by (is_ascii_digit d) refl
  where
    by : (b : Bool) → is_ascii_digit d ≡ b → is_ascii_digit d ≡ true
    by true is = is
    by false is = let not : list_all is_ascii_digit (d ∷ ds) ≡ false = rw is refl in absurd (cc)

pub all_rest : (d : ℕ) (ds : List ℕ) → list_all is_ascii_digit (d ∷ ds) ≡ true → list_all is_ascii_digit ds ≡ true
all_rest d ds all = let first = all_first d ds all in rw first at all

pub all_step : (d : ℕ) (ds : List ℕ) → is_ascii_digit d ≡ true → list_all is_ascii_digit (d ∷ ds) ≡ list_all is_ascii_digit ds
all_step d ds digit = rw digit refl

pub value_step : (n d : ℕ) (ds : List ℕ) → is_ascii_digit d ≡ true → digits_value_after 10 n (d ∷ ds) ≡ digits_value_after 10 (n * 10 + (d - 48)) ds
value_step n d ds digit = ap (λ (m : ℕ). digits_value_after 10 (n * 10 + m) ds) (digit_is d digit)

pub value_least : (n : ℕ) (ds : List ℕ) → n ≤ digits_value_after 10 n ds
value_least n [] = omega arith
value_least n (d ∷ ds) = let more = value_least (n * 10 + digit_value d) ds in omega (arith, more)

pub value_append : (n : ℕ) (xs ys : List ℕ) → digits_value_after 10 n (xs ++ ys) ≡ digits_value_after 10 (digits_value_after 10 n xs) ys
value_append n [] ys = refl
value_append n (x ∷ xs) ys = value_append (n * 10 + digit_value x) xs ys

-- digits that are pushed behind a number, as far as they are read
pub record Pushing (front : ℕ) (digits : List ℕ) (most value : ℕ) (left : List ℕ) : Type 0 where
  pub few : value ≤ most
  pub same : digits_value_after 10 front digits ≡ digits_value_after 10 value left
  pub each : list_all is_ascii_digit digits ≡ list_all is_ascii_digit left

pub pushing_more : {front most value : ℕ} {digits left : List ℕ} (d : ℕ) (ds : List ℕ) → Pushing front digits most value left → left ≡ d ∷ ds
    → is_ascii_digit d ≡ true → value * 10 + (d - 48) ≤ most → Pushing front digits most (value * 10 + (d - 48)) ds
pushing_more {value = value} d ds so_far at digit few = record {
  few = few;
  same = so_far.same ∙ ap (digits_value_after 10 value) at ∙ value_step value d ds digit;
  each = so_far.each ∙ ap (list_all is_ascii_digit) at ∙ all_step d ds digit;
}

pub pushing_end : {front most value : ℕ} {digits left : List ℕ} → Pushing front digits most value left → left ≡ [] → GoesOnWith front digits most value
pushing_end {value = value} so_far none = record {
  each = so_far.each ∙ ap (list_all is_ascii_digit) none;
  is = sym (so_far.same ∙ ap (digits_value_after 10 value) none);
  few = so_far.few;
}

pub pushing_other : {front most value : ℕ} {digits left : List ℕ} (d : ℕ) (ds : List ℕ) → Pushing front digits most value left → left ≡ d ∷ ds
    → is_ascii_digit d ≢ true → (whole : ℕ) → GoesOnWith front digits most whole → ⊥
pushing_other d ds so_far at not whole goes =
    not (all_first d ds (sym (so_far.each ∙ ap (list_all is_ascii_digit) at) ∙ goes.each))

pub pushing_high : {front most value : ℕ} {digits left : List ℕ} (d : ℕ) (ds : List ℕ) → Pushing front digits most value left → left ≡ d ∷ ds
    → is_ascii_digit d ≡ true → most < value * 10 + (d - 48) → (whole : ℕ) → GoesOnWith front digits most whole → ⊥
pushing_high {value = value} d ds so_far at digit high whole goes =
    let is : whole ≡ digits_value_after 10 (value * 10 + (d - 48)) ds =
    goes.is ∙ so_far.same ∙ ap (digits_value_after 10 value) at ∙ value_step value d ds digit in
    let least = value_least (value * 10 + (d - 48)) ds in
    let few = goes.few in
    omega (arith, is, least, few, high)

-- the digits of a number with a point
pub zeros : (k : ℕ) → k ≤ 3 → take {A = ℕ} k (48 ∷ 48 ∷ 48 ∷ []) ≡ replicate k 48
zeros zero few = refl
zeros (suc zero) few = refl
zeros (suc (suc zero)) few = refl
zeros (suc (suc (suc zero))) few = refl
zeros (suc (suc (suc (suc k)))) few = absurd (omega arith)

pub decimal_value : (whole fraction more : List ℕ)
    → digits_value 10 (whole ++ fraction ++ more) ≡ digits_value_after 10 (digits_value_after 10 (digits_value_after 10 0 whole) fraction) more
decimal_value whole fraction more = value_append 0 (whole ++ fraction) more ∙ ap (λ (n : ℕ). digits_value_after 10 n more) (value_append 0 whole fraction)

pub decimal_read : {places most first second third : ℕ} {whole fraction : List ℕ} → 0 < length whole → length fraction ≤ places → places ≤ 3
    → GoesOnWith 0 whole most first → GoesOnWith first fraction most second
    → GoesOnWith second (take {A = ℕ} (places - length fraction) (48 ∷ 48 ∷ 48 ∷ [])) most third → IsDecimal places most whole fraction third
decimal_read {places} {most} {first} {second} {third} {whole} {fraction} some short small one two three =
    let zero_digits = zeros (places - length fraction) (omega arith) in record {
      some = some;
      whole_digits = one.each;
      fraction_digits = two.each;
      short = short;
      is = three.is ∙ ap (digits_value_after 10 second) zero_digits
          ∙ ap (λ (n : ℕ). digits_value_after 10 n (replicate (places - length fraction) 48)) (two.is ∙ ap (λ (n : ℕ). digits_value_after 10 n fraction) one.is)
          ∙ sym (decimal_value whole fraction (replicate (places - length fraction) 48));
      few = three.few;
    }

-- the parts of the number that a decimal writes
pub record DecimalParts (places most : ℕ) (whole fraction : List ℕ) : Type 0 where
  pub value : ℕ
  pub first : GoesOnWith 0 whole most (digits_value_after 10 0 whole)
  pub second : GoesOnWith (digits_value_after 10 0 whole) fraction most (digits_value_after 10 (digits_value_after 10 0 whole) fraction)
  pub third : GoesOnWith (digits_value_after 10 (digits_value_after 10 0 whole) fraction) (take {A = ℕ} (places - length fraction) (48 ∷ 48 ∷ 48 ∷ [])) most value

zeros_digits : (k : ℕ) → list_all is_ascii_digit (replicate k 48) ≡ true
zeros_digits zero = refl
zeros_digits (suc k) = zeros_digits k

pub decimal_parts : {places most value : ℕ} {whole fraction : List ℕ} → places ≤ 3 → IsDecimal places most whole fraction value
    → DecimalParts places most whole fraction
decimal_parts {places} {most} {value} {whole} {fraction} small is =
    let one : ℕ = digits_value_after 10 0 whole in
    let two : ℕ = digits_value_after 10 one fraction in
    let nils : List ℕ = replicate (places - length fraction) 48 in
    let zero_digits : take {A = ℕ} (places - length fraction) (48 ∷ 48 ∷ 48 ∷ []) ≡ nils = zeros (places - length fraction) (omega arith) in
    let whole_is : value ≡ digits_value_after 10 two nils = is.is ∙ decimal_value whole fraction nils in
    let low = value_least one fraction in
    let lower = value_least two nils in
    let few = is.few in
    record {
      value = value;
      first = record { each = is.whole_digits; is = refl; few = omega (arith, whole_is, low, lower, few) };
      second = record { each = is.fraction_digits; is = refl; few = omega (arith, whole_is, lower, few) };
      third = record {
        each = ap (list_all is_ascii_digit) zero_digits ∙ zeros_digits (places - length fraction);
        is = whole_is ∙ ap (digits_value_after 10 two) (sym zero_digits);
        few = few;
      };
    }

pub no_first : {places most : ℕ} {whole fraction : List ℕ} → places ≤ 3 → ((n : ℕ) → GoesOnWith 0 whole most n → ⊥)
    → (value : ℕ) → IsDecimal places most whole fraction value → ⊥
no_first small none value is = none _ (decimal_parts small is).first

pub no_second : {places most first : ℕ} {whole fraction : List ℕ} → places ≤ 3 → GoesOnWith 0 whole most first
    → ((n : ℕ) → GoesOnWith first fraction most n → ⊥) → (value : ℕ) → IsDecimal places most whole fraction value → ⊥
no_second {most = most} {whole = whole} {fraction = fraction} small one none value is =
    let parts = decimal_parts small is in
    none (digits_value_after 10 (digits_value_after 10 0 whole) fraction)
    (subst (λ (n : ℕ). GoesOnWith n fraction most (digits_value_after 10 (digits_value_after 10 0 whole) fraction)) (sym one.is) parts.second)

pub no_third : {places most first second : ℕ} {whole fraction : List ℕ} → places ≤ 3 → GoesOnWith 0 whole most first → GoesOnWith first fraction most second
    → ((n : ℕ) → GoesOnWith second (take {A = ℕ} (places - length fraction) (48 ∷ 48 ∷ 48 ∷ [])) most n → ⊥)
    → (value : ℕ) → IsDecimal places most whole fraction value → ⊥
no_third {places} {most} {first} {second} {whole} {fraction} small one two none value is =
    let parts = decimal_parts small is in
    let same : digits_value_after 10 (digits_value_after 10 0 whole) fraction ≡ second =
    sym (two.is ∙ ap (λ (n : ℕ). digits_value_after 10 n fraction) one.is) in
    none parts.value (subst (λ (n : ℕ). GoesOnWith n (take {A = ℕ} (places - length fraction) (48 ∷ 48 ∷ 48 ∷ [])) most parts.value) same parts.third)

-- texts that are cut at the first octet of a value
pub front_one : (wanted : ℕ) (xs us ys vs : List ℕ) → IsWithout wanted xs → IsWithout wanted us → xs ++ wanted ∷ ys ≡ us ++ wanted ∷ vs
    → (xs ≡ us) × (ys ≡ vs)
front_one wanted [] [] ys vs clear other same = (refl, cc)
front_one wanted [] (u ∷ us) ys vs clear other same = let first : wanted ≡ u = cc in absurd (other.0 (sym first))
front_one wanted (x ∷ xs) [] ys vs clear other same = let first : x ≡ wanted = cc in absurd (clear.0 first)
front_one wanted (x ∷ xs) (u ∷ us) ys vs clear other same =
    let tail = front_one wanted xs us ys vs clear.1 other.1 (cc) in
    let one : x ≡ u = cc in
    (λ i. one i ∷ tail.0 i, tail.1)

pub without_it : (wanted : ℕ) (xs ys : List ℕ) → IsWithout wanted (xs ++ wanted ∷ ys) → ⊥
without_it wanted [] ys clear = clear.0 refl
without_it wanted (x ∷ xs) ys clear = without_it wanted xs ys clear.1

pub digits_without : (octet : ℕ) (ds : List ℕ) → ((48 ≤ octet) × (octet ≤ 57) → ⊥) → list_all is_ascii_digit ds ≡ true → IsWithout octet ds
digits_without octet [] other all = tt
digits_without octet (d ∷ ds) other all = (
  λ same. other (subst (λ (n : ℕ). (48 ≤ n) × (n ≤ 57)) same (digit_near d (all_first d ds all))),
  digits_without octet ds other (all_rest d ds all),
)

no_point : (ds : List ℕ) → list_all is_ascii_digit ds ≡ true → IsWithout 46 ds
no_point ds all = digits_without 46 ds (λ near. let low = near.0 in absurd (omega arith)) all

-- a numeral without a point, and one with it
pub whole_part : {places most value : ℕ} {text : List ℕ} → IsDecimal places most text [] value → IsPart places most value text
whole_part {text = text} is = record {
  spelled = record {
    whole = text;
    point = [];
    fraction = [];
    written = sym (append-nil text);
    digits = record { some = is.some; each = is.whole_digits };
    behind = inl (refl, refl);
    few = is.short;
    is = is.is;
  };
  few = is.few;
}

pub point_part : {places most value : ℕ} {text whole fraction : List ℕ} → text ≡ whole ++ 46 ∷ fraction → 0 < length fraction
    → IsDecimal places most whole fraction value → IsPart places most value text
point_part {whole = whole} {fraction = fraction} written some is = record {
  spelled = record {
    whole = whole;
    point = 46 ∷ fraction;
    fraction = fraction;
    written = written;
    digits = record { some = is.some; each = is.whole_digits };
    behind = inr (refl, record { some = some; each = is.fraction_digits });
    few = is.short;
    is = is.is;
  };
  few = is.few;
}

pub part_whole : {places most value : ℕ} {text : List ℕ} → IsWithout 46 text → IsPart places most value text → IsDecimal places most text [] value
part_whole {places} {most} {value} {text} clear is = by is.spelled.behind
  where
    by : IsFraction is.spelled.point is.spelled.fraction → IsDecimal places most text [] value
    by (inl none) =
        let same : is.spelled.whole ≡ text = sym (is.spelled.written ∙ ap (λ (l : List ℕ). is.spelled.whole ++ l) none.0 ∙ append-nil is.spelled.whole) in
        record {
          some = subst (λ (l : List ℕ). 0 < length l) same is.spelled.digits.some;
          whole_digits = subst (λ (l : List ℕ). list_all is_ascii_digit l ≡ true) same is.spelled.digits.each;
          fraction_digits = refl;
          short = omega arith;
          is = is.spelled.is ∙ ap (λ (l : List ℕ). digits_value 10 (is.spelled.whole ++ l ++ replicate (places - length l) 48)) none.1
              ∙ ap (λ (l : List ℕ). digits_value 10 (l ++ [] ++ replicate (places - length {A = ℕ} []) 48)) same;
          few = is.few;
        }
    by (inr some) = absurd (without_it 46 is.spelled.whole is.spelled.fraction
        (subst (IsWithout 46) (is.spelled.written ∙ ap (λ (l : List ℕ). is.spelled.whole ++ l) some.0) clear))

pub part_point : {places most value : ℕ} {text whole fraction : List ℕ} → IsWithout 46 whole → text ≡ whole ++ 46 ∷ fraction
    → IsPart places most value text → (0 < length fraction) × IsDecimal places most whole fraction value
part_point {places} {most} {value} {text} {whole} {fraction} clear written is = by is.spelled.behind
  where
    by : IsFraction is.spelled.point is.spelled.fraction → (0 < length fraction) × IsDecimal places most whole fraction value
    by (inl none) =
        let same : is.spelled.whole ≡ whole ++ 46 ∷ fraction =
        sym (is.spelled.written ∙ ap (λ (l : List ℕ). is.spelled.whole ++ l) none.0 ∙ append-nil is.spelled.whole) ∙ written in
        absurd (without_it 46 whole fraction (subst (IsWithout 46) same (no_point is.spelled.whole is.spelled.digits.each)))
    by (inr some) =
        let one = front_one 46 is.spelled.whole whole is.spelled.fraction fraction (no_point is.spelled.whole is.spelled.digits.each) clear
        (sym (is.spelled.written ∙ ap (λ (l : List ℕ). is.spelled.whole ++ l) some.0) ∙ written) in (
          subst (λ (l : List ℕ). 0 < length l) one.1 some.1.some,
          record {
            some = subst (λ (l : List ℕ). 0 < length l) one.0 is.spelled.digits.some;
            whole_digits = subst (λ (l : List ℕ). list_all is_ascii_digit l ≡ true) one.0 is.spelled.digits.each;
            fraction_digits = subst (λ (l : List ℕ). list_all is_ascii_digit l ≡ true) one.1 some.1.each;
            short = subst (λ (l : List ℕ). length l ≤ places) one.1 is.spelled.few;
            is = is.spelled.is ∙ ap (λ (l : List ℕ). digits_value 10 (is.spelled.whole ++ l ++ replicate (places - length l) 48)) one.1
                ∙ ap (λ (l : List ℕ). digits_value 10 (l ++ fraction ++ replicate (places - length fraction) 48)) one.0;
            few = is.few;
          },
        )

-- a numeral has digits and a point alone
abbrev pub IsNear : ℕ → Type 0
IsNear octet = (46 ≤ octet) × (octet ≤ 57)

digits_near : (ds : List ℕ) → list_all is_ascii_digit ds ≡ true → AllByRecursion IsNear ds
digits_near [] all = tt
digits_near (d ∷ ds) all =
    let near = digit_near d (all_first d ds all) in
    let low = near.0 in ((omega arith, near.1), digits_near ds (all_rest d ds all))

near_append : (xs ys : List ℕ) → AllByRecursion IsNear xs → AllByRecursion IsNear ys → AllByRecursion IsNear (xs ++ ys)
near_append [] ys all more = more
near_append (x ∷ xs) ys all more = (all.0, near_append xs ys all.1 more)

pub numeral_near : {places value : ℕ} {text : List ℕ} → IsNumeral places text value → AllByRecursion IsNear text
numeral_near {text = text} is = subst (AllByRecursion IsNear) (sym is.written) (near_append is.whole is.point (digits_near is.whole is.digits.each) (by is.behind))
  where
    by : IsFraction is.point is.fraction → AllByRecursion IsNear is.point
    by (inl none) = subst (AllByRecursion IsNear) (sym none.0) tt
    by (inr some) = subst (AllByRecursion IsNear) (sym some.0) ((omega arith, omega arith), digits_near is.fraction some.1.each)

near_last : (xs : List ℕ) (x : ℕ) → AllByRecursion IsNear (xs ++ x ∷ []) → IsNear x
near_last [] x all = all.0
near_last (y ∷ xs) x all = near_last xs x all.1

near_front : (xs ys : List ℕ) → AllByRecursion IsNear (xs ++ ys) → AllByRecursion IsNear xs
near_front [] ys all = tt
near_front (x ∷ xs) ys all = (all.0, near_front xs ys all.1)

pub last_one : (xs ys : List ℕ) (a b : ℕ) → xs ++ a ∷ [] ≡ ys ++ b ∷ [] → (xs ≡ ys) × (a ≡ b)
last_one [] [] a b same = (refl, cc)
last_one [] (y ∷ []) a b same = let none : [] ≡ b ∷ [] = cc in absurd (cc)
last_one [] (y ∷ z ∷ ys) a b same = let none : [] ≡ z ∷ (ys ++ b ∷ []) = cc in absurd (cc)
last_one (x ∷ []) [] a b same = let none : a ∷ [] ≡ [] = cc in absurd (cc)
last_one (x ∷ z ∷ xs) [] a b same = let none : z ∷ (xs ++ a ∷ []) ≡ [] = cc in absurd (cc)
last_one (x ∷ xs) (y ∷ ys) a b same =
    let tail = last_one xs ys a b (cc) in
    let one : x ≡ y = cc in
    (λ i. one i ∷ tail.0 i, tail.1)

-- no numeral is empty
pub numeral_some : {places value : ℕ} {text : List ℕ} → IsNumeral places text value → 0 < length text
numeral_some is = let some = is.digits.some in omega (arith, some, ap (length {A = ℕ}) is.written, length-append is.whole is.point)

pub metres_some : {value : ℕ} {text : List ℕ} → IsMetres text value → 0 < length text
metres_some {value} {text} is = by is.unit
  where
    by : (text ≡ is.numeral) ⊎ (text ≡ is.numeral ++ codes "m") → 0 < length text
    by (inl same) = let some = numeral_some is.is in omega (arith, some, ap (length {A = ℕ}) same)
    by (inr same) = let some = numeral_some is.is in omega (arith, some, ap (length {A = ℕ}) same, length-append is.numeral (codes "m"))

pub altitude_some : {altitude : ℕ} {text : List ℕ} → IsAltitude altitude text → 0 < length text
altitude_some {altitude} {text} is = by is.spelled.1
  where
    by : (IsMetres text is.spelled.0 × (altitude ≡ 10000000 + is.spelled.0))
        ⊎ ((metres : List ℕ) × (text ≡ codes "-" ++ metres) × IsMetres metres is.spelled.0 × (altitude + is.spelled.0 ≡ 10000000)) → 0 < length text
    by (inl up) = metres_some up.0
    by (inr down) = omega (arith, ap (length {A = ℕ}) down.1)

-- what follows if there is no value
pub if_none : {X P Q : Type 0} (r : Option X) → IfNone r P → (P → Q) → IfNone r Q
if_none None holds next = next holds
if_none (Some x) holds next = tt

-- metres with their unit, and without
pub unit_length : {most value : ℕ} {text numeral : List ℕ} → text ≡ numeral ++ 109 ∷ [] → IsPart 2 most value numeral → IsLength most value text
unit_length {numeral = numeral} written is = record { spelled = record { numeral = numeral; is = is.spelled; unit = inr written }; few = is.few }

pub bare_length : {most value : ℕ} {text : List ℕ} → IsPart 2 most value text → IsLength most value text
bare_length {text = text} is = record { spelled = record { numeral = text; is = is.spelled; unit = inl refl }; few = is.few }

pub length_unit : {most value : ℕ} {text numeral : List ℕ} → text ≡ numeral ++ 109 ∷ [] → IsLength most value text → IsPart 2 most value numeral
length_unit {most} {value} {text} {numeral} written is = by is.spelled.unit
  where
    by : (text ≡ is.spelled.numeral) ⊎ (text ≡ is.spelled.numeral ++ codes "m") → IsPart 2 most value numeral
    by (inl same) =
        let near = near_last numeral 109 (subst (AllByRecursion IsNear) (sym same ∙ written) (numeral_near is.spelled.is)) in
        let high = near.1 in absurd (omega arith)
    by (inr same) =
        let one = last_one is.spelled.numeral numeral 109 109 (sym same ∙ written) in
        record { spelled = subst (λ (l : List ℕ). IsNumeral 2 l value) one.0 is.spelled.is; few = is.few }

pub length_bare : {most value : ℕ} {text : List ℕ} → ((numeral : List ℕ) → text ≡ numeral ++ 109 ∷ [] → ⊥) → IsLength most value text
    → IsPart 2 most value text
length_bare {most} {value} {text} clear is = by is.spelled.unit
  where
    by : (text ≡ is.spelled.numeral) ⊎ (text ≡ is.spelled.numeral ++ codes "m") → IsPart 2 most value text
    by (inl same) = record { spelled = subst (λ (l : List ℕ). IsNumeral 2 l value) (sym same) is.spelled.is; few = is.few }
    by (inr same) = absurd (clear is.spelled.numeral same)

metres_first : (octet value : ℕ) (octets : List ℕ) → octet < 46 → IsMetres (octet ∷ octets) value → ⊥
metres_first octet value octets low is = by is.unit
  where
    by : (octet ∷ octets ≡ is.numeral) ⊎ (octet ∷ octets ≡ is.numeral ++ codes "m") → ⊥
    by (inl same) =
        let near = subst (AllByRecursion IsNear) (sym same) (numeral_near is.is) in let least = near.0.0 in omega arith
    by (inr same) = begins is.numeral (numeral_near is.is) same
      where
        begins : (ds : List ℕ) → AllByRecursion IsNear ds → octet ∷ octets ≡ ds ++ codes "m" → ⊥
        begins [] near also = let first : octet ≡ 109 = cc in omega (arith, first)
        begins (d ∷ ds) near also = let first : octet ≡ d = cc in let least = near.0.0 in omega (arith, first)

-- altitudes
pub high_altitude : {height : ℕ} {text : List ℕ} → IsLength 4284967295 height text → IsAltitude (10000000 + height) text
high_altitude {height} {text} is = let few = is.few in record { spelled = (height, inl (is.spelled, refl)); small = omega arith }

pub low_altitude : {depth : ℕ} {text metres : List ℕ} → text ≡ 45 ∷ metres → IsLength 10000000 depth metres → IsAltitude (10000000 - depth) text
low_altitude {depth} {text} {metres} written is =
    let few = is.few in record { spelled = (depth, inr (metres, written, is.spelled, omega arith)); small = omega arith }

pub altitude_high : {altitude : ℕ} {text : List ℕ} → ((metres : List ℕ) → text ≡ 45 ∷ metres → ⊥) → ((height : ℕ) → IsLength 4284967295 height text → ⊥)
    → IsAltitude altitude text → ⊥
altitude_high {altitude} {text} clear none is = by is.spelled.1
  where
    by : (IsMetres text is.spelled.0 × (altitude ≡ 10000000 + is.spelled.0))
        ⊎ ((metres : List ℕ) × (text ≡ codes "-" ++ metres) × IsMetres metres is.spelled.0 × (altitude + is.spelled.0 ≡ 10000000)) → ⊥
    by (inl up) = let small = is.small in let same = up.1 in none is.spelled.0 (record { spelled = up.0; few = omega (arith, small, same) })
    by (inr down) = clear down.0 down.1

pub altitude_low : {altitude : ℕ} {text metres : List ℕ} → text ≡ 45 ∷ metres → ((depth : ℕ) → IsLength 10000000 depth metres → ⊥)
    → IsAltitude altitude text → ⊥
altitude_low {altitude} {text} {metres} written none is = by is.spelled.1
  where
    by : (IsMetres text is.spelled.0 × (altitude ≡ 10000000 + is.spelled.0))
        ⊎ ((below : List ℕ) × (text ≡ codes "-" ++ below) × IsMetres below is.spelled.0 × (altitude + is.spelled.0 ≡ 10000000)) → ⊥
    by (inl up) = metres_first 45 is.spelled.0 metres (omega arith) (subst (λ (l : List ℕ). IsMetres l is.spelled.0) written up.0)
    by (inr down) =
        let same : down.0 ≡ metres = cc in
        let sum = down.3 in
        none is.spelled.0 (record { spelled = subst (λ (l : List ℕ). IsMetres l is.spelled.0) same down.2; few = omega (arith, sum) })

-- a numeral writes one number
pub part_one : {places most more value other : ℕ} {text : List ℕ} → IsPart places most value text → IsPart places more other text → value ≡ other
part_one {places} {most} {more} {value} {other} {text} is also = by is.spelled.behind
  where
    by : IsFraction is.spelled.point is.spelled.fraction → value ≡ other
    by (inl none) =
        let same : text ≡ is.spelled.whole = is.spelled.written ∙ ap (λ (l : List ℕ). is.spelled.whole ++ l) none.0 ∙ append-nil is.spelled.whole in
        let clear = subst (IsWithout 46) (sym same) (no_point is.spelled.whole is.spelled.digits.each) in
        (part_whole clear is).is ∙ sym (part_whole clear also).is
    by (inr some) =
        let same : text ≡ is.spelled.whole ++ 46 ∷ is.spelled.fraction = is.spelled.written ∙ ap (λ (l : List ℕ). is.spelled.whole ++ l) some.0 in
        let clear = no_point is.spelled.whole is.spelled.digits.each in
        (part_point clear same is).1.is ∙ sym (part_point clear same also).1.is
