-- A location tried on the first example of RFC 1876 4.
use Rattle.std.proofs.Common.{◌≡◌, ◌+◌, ◌-◌, ◌*◌, ◌<◌, ◌++◌, ℕ, true, List, [], ◌∷◌, length, refl, sym, arith, append-nil, inl, inr}
use Rattle.std.specs.Prelude.{codes, replicate}
use Rattle.std.specs.Char.{is_ascii_digit}
use Rattle.std.specs.Fmt.{digits}
use Rattle.std.specs.List.{list_all}
use Rattle.std.specs.Str.Parse.{digits_value}
use Rattle.dns_field_texts.specs.Location.{Location, degrees, location_octets}
use Rattle.dns_field_texts.specs.LocationText.{IsAngle, IsNumeral, SpellsArc, SpellsSize, location_words}

-- `42 21 54 N 71 06 18 W -24m 30m`
abbrev place : Location
place = record {
  size = record { mantissa = 3; power = 3 };
  horizontal = record { mantissa = 1; power = 6 };
  vertical = record { mantissa = 1; power = 3 };
  latitude = 2299997648;
  longitude = 1891505648;
  altitude = 9997600;
}

pub place_octets : location_octets place ≡ 0 ∷ 0x33 ∷ 0x16 ∷ 0x13 ∷ 0x89 ∷ 0x17 ∷ 0x2D ∷ 0xD0 ∷ 0x70 ∷ 0xBE ∷ 0x15 ∷ 0xF0
    ∷ 0 ∷ 0x98 ∷ 0x8D ∷ 0x20 ∷ []
place_octets = refl

pub place_printed : location_words place ≡ codes "42" ∷ codes "21" ∷ codes "54.000" ∷ codes "N" ∷ codes "71" ∷ codes "06"
    ∷ codes "18.000" ∷ codes "W" ∷ codes "-24.00m" ∷ codes "30.00m" ∷ codes "10000.00m" ∷ codes "10.00m" ∷ []
unfolding digits
place_printed = refl

abbrev angle : (degree minute second : List ℕ) (d m s : ℕ) → IsNumeral 0 degree d → IsNumeral 0 minute m → IsNumeral 3 second s → m < 60
    → s < 60000 → IsAngle degree minute second (degrees d + m * 60000 + s)
angle degree minute second d m s first next last few less = record {
  d = d;
  m = m;
  s = s;
  spelled = (first, next, last);
  below = (few, less);
  is = refl;
}

-- digits without a point
abbrev whole : (places : ℕ) (text : List ℕ) → 0 < length text → list_all is_ascii_digit text ≡ true
    → IsNumeral places text (digits_value 10 (text ++ [] ++ replicate (places - length {A = ℕ} []) 48))
whole places text some each = record {
  whole = text;
  point = [];
  fraction = [];
  written = sym (append-nil text);
  digits = record { some = some; each = each };
  behind = inl (refl, refl);
  few = omega arith;
  is = refl;
}

pub place_north : SpellsArc 90 (codes "N") (codes "S") (codes "42" ∷ codes "21" ∷ codes "54" ∷ codes "N" ∷ []) place.latitude
place_north = record {
  front = codes "42" ∷ codes "21" ∷ codes "54" ∷ [];
  direction = codes "N";
  angle = 152514000;
  written = refl;
  spelled = angle _ _ _ 42 21 54000 (whole 0 (codes "42") (omega arith) refl) (whole 0 (codes "21") (omega arith) refl)
      (whole 3 (codes "54") (omega arith) refl) (omega arith) (omega arith);
  within = omega arith;
  is = inl (refl, refl);
}

-- `30m`, the size there
pub place_size : SpellsSize (codes "30m") place.size
place_size = record {
  centimetres = 3000;
  metres = record { numeral = codes "30"; is = whole 2 (codes "30") (omega arith) refl; unit = inr refl };
  most = omega arith;
  is = record { mantissa = omega arith; power = omega arith; zero = λ none. absurd (omega (arith, none)) };
  below = omega arith;
  above = omega arith;
}
