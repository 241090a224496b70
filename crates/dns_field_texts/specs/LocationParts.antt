-- Locations as the code holds them. Only contracts inside the crate name it.
use Rattle.std.specs.Prelude.{◌≡◌, ◌+◌, ◌-◌, ◌*◌, ◌<◌, ◌≤◌, ◌^◌, ◌⊎◌, ℕ, true, List, [], ◌∷◌, ◌++◌, length, replicate}
use Rattle.std.specs.Char.{is_ascii_digit}
use Rattle.std.specs.List.{list_all}
use Rattle.std.specs.Str.Parse.{digits_value, digits_value_after}
use Rattle.dns_scan.specs.Token.{Takes, Token}
use Rattle.dns_field_texts.specs.declared.location.scan.Axis.{Axis}
use Rattle.dns_field_texts.specs.LocationText.{IsMetres, IsNumeral, SpellsAltitude, SpellsSize}
use Rattle.dns_field_texts.specs.declared.location.place.Precision.{Precision as Digits}
use Rattle.dns_field_texts.specs.declared.location.place.Place.{Place}
use Rattle.dns_field_texts.specs.Location.{IsLocation, IsPrecision, Location, Precision, degrees, location_octets, precision_octet}

abbrev pub precision_of : Digits → Precision
precision_of digits = record { mantissa = digits.mantissa; power = digits.power }

abbrev pub location_of : Place → Location
location_of place = record {
  size = precision_of place.size;
  horizontal = precision_of place.horizontal;
  vertical = precision_of place.vertical;
  latitude = place.latitude;
  longitude = place.longitude;
  altitude = place.altitude;
}

-- the octets are those of the place
abbrev pub IsPlace : List ℕ → Place → Type 0
IsPlace octets place = IsLocation (location_of place) × (octets ≡ location_octets (location_of place))

-- the octet is one of a precision
abbrev pub HoldsPrecision : ℕ → Type 0
HoldsPrecision octet = (precision : Precision) × IsPrecision precision × (octet ≡ precision_octet precision)

-- the largest precision that is not above that many centimetres
pub record IsCut (centimetres : ℕ) (size : Precision) : Type 0 where
  pub is : IsPrecision size
  pub below : size.mantissa * 10 ^ size.power ≤ centimetres
  pub above : centimetres < (size.mantissa + 1) * 10 ^ size.power

-- digits behind those of a number, and the number that they make together
pub record GoesOnWith (front : ℕ) (digits : List ℕ) (most value : ℕ) : Type 0 where
  pub each : list_all is_ascii_digit digits ≡ true
  pub is : value ≡ digits_value_after 10 front digits
  pub few : value ≤ most

-- the digits before and behind a point write that number, of at most that value
pub record IsDecimal (places most : ℕ) (whole fraction : List ℕ) (value : ℕ) : Type 0 where
  pub some : 0 < length whole
  pub whole_digits : list_all is_ascii_digit whole ≡ true
  pub fraction_digits : list_all is_ascii_digit fraction ≡ true
  pub short : length fraction ≤ places
  pub is : value ≡ digits_value 10 (whole ++ fraction ++ replicate (places - length fraction) 48)
  pub few : value ≤ most

-- a numeral of at most that value
pub record IsPart (places most value : ℕ) (text : List ℕ) : Type 0 where
  pub spelled : IsNumeral places text value
  pub few : value ≤ most

-- metres of at most that value
pub record IsLength (most value : ℕ) (text : List ℕ) : Type 0 where
  pub spelled : IsMetres text value
  pub few : value ≤ most

-- an altitude that has its 32 bits
pub record IsAltitude (value : ℕ) (text : List ℕ) : Type 0 where
  pub spelled : SpellsAltitude text value
  pub small : value < 2 ^ 32

-- the first token's text
abbrev pub TakesText : (List ℕ → Type 0) → List Token → List Token → Type 0
TakesText Fits tokens left = Takes (λ token. Fits token.text) tokens left

-- the letters of an axis are no digits
pub record IsAxis (axis : Axis) : Type 0 where
  pub few : axis.most ≤ 180
  pub up : 57 < axis.up
  pub down : 57 < axis.down

-- the text is one of the two directions, away from 2 ^ 31
abbrev pub IsDirection : Axis → ℕ → ℕ → List ℕ → Type 0
IsDirection axis angle value text =
    ((text ≡ axis.up ∷ []) × (value ≡ 2 ^ 31 + angle)) ⊎ ((text ≡ axis.down ∷ []) × (value + angle ≡ 2 ^ 31))

-- the tokens begin with the direction of an angle
pub record EndsArc (axis : Axis) (angle : ℕ) (tokens left : List Token) (value : ℕ) : Type 0 where
  pub takes : TakesText (IsDirection axis angle value) tokens left
  pub within : angle ≤ degrees axis.most

-- seconds, and a direction
pub record HasSeconds (axis : Axis) (angle : ℕ) (tokens left : List Token) (value : ℕ) : Type 0 where
  pub second : ℕ
  pub behind : List Token
  pub takes : TakesText (IsPart 3 59999 second) tokens behind
  pub ends : EndsArc axis (angle + second) behind left value

-- minutes, perhaps seconds, and a direction
pub record HasMinutes (axis : Axis) (angle : ℕ) (tokens left : List Token) (value : ℕ) : Type 0 where
  pub minute : ℕ
  pub behind : List Token
  pub takes : TakesText (IsPart 0 59 minute) tokens behind
  pub ends : EndsArc axis (angle + minute * 60000) behind left value ⊎ HasSeconds axis (angle + minute * 60000) behind left value

-- degrees, perhaps minutes and seconds, and a direction
pub record HasArc (axis : Axis) (tokens left : List Token) (value : ℕ) : Type 0 where
  pub degree : ℕ
  pub behind : List Token
  pub takes : TakesText (IsPart 0 axis.most degree) tokens behind
  pub ends : EndsArc axis (degrees degree) behind left value ⊎ HasMinutes axis (degrees degree) behind left value

-- a size, or the usual one if there is none
abbrev pub HasSize : List ℕ → List Token → List Token → Precision → Type 0
HasSize usual tokens left size =
    TakesText (λ text. SpellsSize text size) tokens left ⊎ ((tokens ≡ []) × (left ≡ []) × SpellsSize usual size)

-- no direction of that angle, and no numeral
abbrev pub NoEnd : Axis → ℕ → List Token → Type 0
NoEnd axis angle tokens = (left : List Token) (value : ℕ) → EndsArc axis angle tokens left value → ⊥

abbrev pub NoPart : List Token → Type 0
NoPart tokens = (places most value : ℕ) (left : List Token) → TakesText (IsPart places most value) tokens left → ⊥
