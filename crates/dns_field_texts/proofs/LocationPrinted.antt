-- The words of a location that is printed scan as the location.
use Rattle.std.proofs.Common.{◌≡◌, ◌+◌, ◌-◌, ◌*◌, ◌/◌, ◌%◌, ◌<◌, ◌≤◌, ◌^◌, ◌⊎◌, inl, inr, ℕ, zero, suc, Bool, true, false, List, [], ◌∷◌, ◌++◌, length, map, refl, sym, ◌∙◌, ap, arith, append-nil, append_assoc}
use Rattle.std.proofs.Math.Nat.{mul-le-mul_right}
use Rattle.std.proofs.lemmas.Bool.Decides.{nat_tests}
use Rattle.std.proofs.lemmas.Fmt.{decimal_is_IsNumeral}
use Rattle.std.specs.Prelude.{codes, decimal, nat_lt, if◌then◌else◌}
use Rattle.std.specs.Char.{digit_value, is_ascii_digit}
use Rattle.std.specs.List.{list_all}
use Rattle.std.specs.Str.Parse.{AllDigits, digits_value, digits_value_after}
use Rattle.dns_label.specs.Symbol.{three_digits}
use Rattle.dns_scan.specs.Token.{Token, unquoted}
use Rattle.dns_field_texts.specs.Location.{IsLocation, IsPrecision, IsWithin, Location, Precision, degrees}
use Rattle.dns_field_texts.specs.LocationText.{AreDigits, IsAngle, IsMetres, IsNumeral, ScansLocation, SpellsAltitude, SpellsAngle, SpellsArc, SpellsSize, altitude_text, angle_words, arc_words, location_words, metres_text, size_text, two_digits}
use Rattle.dns_field_texts.proofs.LocationNumerals.{all_step, value_append}

-- digits
glyph : (k : ℕ) → k < 10 → is_ascii_digit (48 + k) ≡ true
glyph k few = grind (arith, nat_tests)

glyph_value : (k : ℕ) → k < 10 → digit_value (48 + k) ≡ k
glyph_value k few = grind (arith, nat_tests)

digit_small : (c : ℕ) → digit_value c < 10 → is_ascii_digit c ≡ true
digit_small c few = grind (arith, nat_tests)

all_digits : (ds : List ℕ) → AllDigits 10 ds → list_all is_ascii_digit ds ≡ true
all_digits [] all = refl
all_digits (d ∷ ds) all = all_step d ds (digit_small d all.0) ∙ all_digits ds all.1

decimal_digits : (n : ℕ) → n < 2 ^ 64 → AreDigits (decimal n)
decimal_digits n small =
    let is = (decimal_is_IsNumeral n small).0 in record { some = is.0; each = all_digits (decimal n) is.1 }

two_are : (n : ℕ) → n < 100 → AreDigits (two_digits n)
two_are n small = record {
  some = omega arith;
  each = all_step (48 + n / 10) ((48 + n % 10) ∷ []) (glyph (n / 10) (omega arith)) ∙ all_step (48 + n % 10) [] (glyph (n % 10) (omega arith));
}

three_are : (n : ℕ) → n < 1000 → AreDigits (three_digits n)
three_are n small = record {
  some = omega arith;
  each = all_step (48 + n / 100) ((48 + n / 10 % 10) ∷ (48 + n % 10) ∷ []) (glyph (n / 100) (omega arith))
      ∙ all_step (48 + n / 10 % 10) ((48 + n % 10) ∷ []) (glyph (n / 10 % 10) (omega arith)) ∙ all_step (48 + n % 10) [] (glyph (n % 10) (omega arith));
}

-- numerals
decimal_numeral : (n : ℕ) → n < 2 ^ 64 → IsNumeral 0 (decimal n) n
decimal_numeral n small = record {
  whole = decimal n;
  point = [];
  fraction = [];
  written = sym (append-nil (decimal n));
  digits = decimal_digits n small;
  behind = inl (refl, refl);
  few = omega arith;
  is = sym (ap (digits_value 10) (append-nil (decimal n ++ []) ∙ append-nil (decimal n)) ∙ (decimal_is_IsNumeral n small).1);
}

two_numeral : (n : ℕ) → n < 100 → IsNumeral 0 (two_digits n) n
two_numeral n small =
    let tens = glyph_value (n / 10) (omega arith) in
    let ones = glyph_value (n % 10) (omega arith) in
    record {
      whole = two_digits n;
      point = [];
      fraction = [];
      written = refl;
      digits = two_are n small;
      behind = inl (refl, refl);
      few = omega arith;
      is = omega (arith, tens, ones);
    }

seconds_numeral : (s t : ℕ) → s < 100 → t < 1000 → IsNumeral 3 (two_digits s ++ codes "." ++ three_digits t) (s * 1000 + t)
seconds_numeral s t few less =
    let tens = glyph_value (s / 10) (omega arith) in
    let ones = glyph_value (s % 10) (omega arith) in
    let first = glyph_value (t / 100) (omega arith) in
    let second = glyph_value (t / 10 % 10) (omega arith) in
    let third = glyph_value (t % 10) (omega arith) in
    record {
      whole = two_digits s;
      point = 46 ∷ three_digits t;
      fraction = three_digits t;
      written = refl;
      digits = two_are s few;
      behind = inr (refl, three_are t less);
      few = omega arith;
      is = omega (arith, tens, ones, first, second, third);
    }

metres_numeral : (c : ℕ) → c < 2 ^ 64 → IsNumeral 2 (decimal (c / 100) ++ codes "." ++ two_digits (c % 100)) c
metres_numeral c small =
    let tens = glyph_value (c % 100 / 10) (omega arith) in
    let ones = glyph_value (c % 100 % 10) (omega arith) in
    let front : digits_value 10 (decimal (c / 100)) ≡ c / 100 = (decimal_is_IsNumeral (c / 100) (omega arith)).1 in
    let whole : digits_value 10 (decimal (c / 100) ++ two_digits (c % 100)) ≡ digits_value_after 10 (c / 100) (two_digits (c % 100)) =
    value_append 0 (decimal (c / 100)) (two_digits (c % 100)) ∙ ap (λ (n : ℕ). digits_value_after 10 n (two_digits (c % 100))) front in
    record {
      whole = decimal (c / 100);
      point = 46 ∷ two_digits (c % 100);
      fraction = two_digits (c % 100);
      written = append_assoc (decimal (c / 100)) (codes ".") (two_digits (c % 100));
      digits = decimal_digits (c / 100) (omega arith);
      behind = inr (refl, two_are (c % 100) (omega arith));
      few = omega arith;
      is = sym (ap (digits_value 10) (append-nil (decimal (c / 100) ++ two_digits (c % 100))) ∙ whole ∙ omega (arith, tens, ones));
    }

metres_printed : (c : ℕ) → c < 2 ^ 64 → IsMetres (metres_text c) c
metres_printed c small = record {
  numeral = decimal (c / 100) ++ codes "." ++ two_digits (c % 100);
  is = metres_numeral c small;
  unit = inr refl;
}

-- angles
angle_printed : (angle : ℕ) → angle ≤ 648000000 → SpellsAngle (angle_words angle) angle
angle_printed angle few = record {
  d = angle / 3600000;
  m = angle / 60000 % 60;
  s = angle / 1000 % 60 * 1000 + angle % 1000;
  spelled = (
    decimal_numeral (angle / 3600000) (omega arith),
    two_numeral (angle / 60000 % 60) (omega arith),
    seconds_numeral (angle / 1000 % 60) (angle % 1000) (omega arith) (omega arith),
  );
  below = (omega arith, omega arith);
  is = omega arith;
}

arc_printed : (most : ℕ) (up down : List ℕ) (value : ℕ) → most ≤ 180 → IsWithin most value → SpellsArc most up down (arc_words up down value) value
arc_printed most up down value few within = by (nat_lt value (2 ^ 31)) refl
  where
    by : (b : Bool) → nat_lt value (2 ^ 31) ≡ b
        → SpellsArc most up down (if b then angle_words (2 ^ 31 - value) ++ down ∷ [] else angle_words (value - 2 ^ 31) ++ up ∷ []) value
    by true test =
        let less : value < 2 ^ 31 = grind (arith, nat_tests) in
        let low = within.low in
        record {
          front = angle_words (2 ^ 31 - value);
          direction = down;
          angle = 2 ^ 31 - value;
          written = refl;
          spelled = angle_printed (2 ^ 31 - value) (omega (arith, low, few));
          within = omega (arith, low, less);
          is = inr (refl, omega (arith, less));
        }
    by false test =
        let least : 2 ^ 31 ≤ value = grind (arith, nat_tests) in
        let high = within.high in
        record {
          front = angle_words (value - 2 ^ 31);
          direction = up;
          angle = value - 2 ^ 31;
          written = refl;
          spelled = angle_printed (value - 2 ^ 31) (omega (arith, high, few));
          within = omega (arith, high, least);
          is = inl (refl, omega (arith, least));
        }

-- altitudes and sizes
altitude_printed : (altitude : ℕ) → altitude < 2 ^ 32 → SpellsAltitude (altitude_text altitude) altitude
altitude_printed altitude small = by (nat_lt altitude 10000000) refl
  where
    by : (b : Bool) → nat_lt altitude 10000000 ≡ b
        → SpellsAltitude (if b then codes "-" ++ metres_text (10000000 - altitude) else metres_text (altitude - 10000000)) altitude
    by true test =
        let less : altitude < 10000000 = grind (arith, nat_tests) in
        (10000000 - altitude, inr (metres_text (10000000 - altitude), refl, metres_printed (10000000 - altitude) (omega arith), omega (arith, less)))
    by false test =
        let least : 10000000 ≤ altitude = grind (arith, nat_tests) in
        (altitude - 10000000, inl (metres_printed (altitude - 10000000) (omega (arith, small)), omega (arith, least)))

power_small : (power : ℕ) → power < 10 → (0 < 10 ^ power) × (10 ^ power ≤ 1000000000)
power_small zero few = (omega arith, omega arith)
power_small (suc zero) few = (omega arith, omega arith)
power_small (suc (suc zero)) few = (omega arith, omega arith)
power_small (suc (suc (suc zero))) few = (omega arith, omega arith)
power_small (suc (suc (suc (suc zero)))) few = (omega arith, omega arith)
power_small (suc (suc (suc (suc (suc zero))))) few = (omega arith, omega arith)
power_small (suc (suc (suc (suc (suc (suc zero)))))) few = (omega arith, omega arith)
power_small (suc (suc (suc (suc (suc (suc (suc zero))))))) few = (omega arith, omega arith)
power_small (suc (suc (suc (suc (suc (suc (suc (suc zero)))))))) few = (omega arith, omega arith)
power_small (suc (suc (suc (suc (suc (suc (suc (suc (suc zero))))))))) few = (omega arith, omega arith)
power_small (suc (suc (suc (suc (suc (suc (suc (suc (suc (suc power)))))))))) few = absurd (omega (arith, few))

next_one : (m unit : ℕ) → 0 < unit → m * unit < (m + 1) * unit
next_one m unit some = let next : (m + 1) * unit ≡ m * unit + unit = omega arith in omega (arith, next, some)

size_printed : (size : Precision) → IsPrecision size → SpellsSize (size_text size) size
size_printed size is =
    let power = power_small size.power is.power in
    let some = power.0 in
    let most = power.1 in
    let few = is.mantissa in
    let below : size.mantissa * 10 ^ size.power ≤ 9 * 10 ^ size.power = mul-le-mul_right (10 ^ size.power) (omega (arith, few)) in
    record {
      centimetres = size.mantissa * 10 ^ size.power;
      metres = metres_printed (size.mantissa * 10 ^ size.power) (omega (arith, below, most));
      most = omega (arith, below, most);
      is = is;
      below = omega arith;
      above = next_one size.mantissa (10 ^ size.power) some;
    }

texts_unquoted : (words : List (List ℕ)) → map (λ token. token.text) (map unquoted words) ≡ words
texts_unquoted [] = refl
texts_unquoted (word ∷ words) = ap (λ (l : List (List ℕ)). word ∷ l) (texts_unquoted words)

pub printed_scans : (location : Location) → IsLocation location → ScansLocation location (map unquoted (location_words location))
printed_scans location is = record {
  latitude = arc_words (codes "N") (codes "S") location.latitude;
  longitude = arc_words (codes "E") (codes "W") location.longitude;
  altitude = altitude_text location.altitude;
  sizes = size_text location.size ∷ size_text location.horizontal ∷ size_text location.vertical ∷ [];
  written = texts_unquoted (location_words location);
  north = arc_printed 90 (codes "N") (codes "S") location.latitude (omega arith) is.latitude;
  east = arc_printed 180 (codes "E") (codes "W") location.longitude (omega arith) is.longitude;
  above = altitude_printed location.altitude is.altitude;
  high = is.altitude;
  sized = record {
    few = omega arith;
    each = (size_printed location.size is.size, (size_printed location.horizontal is.horizontal, (size_printed location.vertical is.vertical, tt)));
  };
}
