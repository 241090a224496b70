-- The data of a LOC record as text (RFC 1876 3): words for the latitude, the longitude, the altitude, and perhaps the three sizes.
use Rattle.std.specs.Prelude.{◌≡◌, ◌+◌, ◌-◌, ◌*◌, ◌/◌, ◌%◌, ◌<◌, ◌≤◌, ◌^◌, ◌⊎◌, ℕ, true, List, [], ◌∷◌, ◌++◌, length, map, drop, codes, decimal, replicate, nat_lt, if◌then◌else◌}
use Rattle.std.specs.Char.{is_ascii_digit}
use Rattle.std.specs.List.{AllZip, list_all}
use Rattle.std.specs.Str.Parse.{digits_value}
use Rattle.dns_label.specs.Symbol.{three_digits}
use Rattle.dns_scan.specs.Token.{Token}
use Rattle.dns_field_texts.specs.Location.{IsLocation, IsPrecision, Location, Precision, degrees, location_octets}

-- one digit or more
pub record AreDigits (text : List ℕ) : Type 0 where
  pub some : 0 < length text
  pub each : list_all is_ascii_digit text ≡ true

-- the digits after a point, if there is one
abbrev pub IsFraction : List ℕ → List ℕ → Type 0
IsFraction text fraction = ((text ≡ []) × (fraction ≡ [])) ⊎ ((text ≡ 46 ∷ fraction) × AreDigits fraction)

-- A number with at most that many digits after the point, counted in units of the last of them.
pub record IsNumeral (places : ℕ) (text : List ℕ) (value : ℕ) : Type 0 where
  pub whole : List ℕ
  pub point : List ℕ
  pub fraction : List ℕ
  pub written : text ≡ whole ++ point
  pub digits : AreDigits whole
  pub behind : IsFraction point fraction
  pub few : length fraction ≤ places
  pub is : value ≡ digits_value 10 (whole ++ fraction ++ replicate (places - length fraction) 48)

-- degrees, minutes below 60 and seconds below 60 with at most three decimals, in thousandths of a second
pub record IsAngle (degree minute second : List ℕ) (angle : ℕ) : Type 0 where
  pub d : ℕ
  pub m : ℕ
  pub s : ℕ
  pub spelled : IsNumeral 0 degree d × IsNumeral 0 minute m × IsNumeral 3 second s
  pub below : (m < 60) × (s < 60000)
  pub is : angle ≡ degrees d + m * 60000 + s

-- seconds, and then minutes, that are left out are 0
abbrev pub SpellsAngle : List (List ℕ) → ℕ → Type 0
SpellsAngle (degree ∷ []) angle = IsAngle degree (codes "0") (codes "0") angle
SpellsAngle (degree ∷ minute ∷ []) angle = IsAngle degree minute (codes "0") angle
SpellsAngle (degree ∷ minute ∷ second ∷ []) angle = IsAngle degree minute second angle
SpellsAngle words angle = ⊥

-- An angle of at most that many degrees, and its direction, which is one of two letters: away from 2 ^ 31 upwards, or downwards.
pub record SpellsArc (most : ℕ) (up down : List ℕ) (words : List (List ℕ)) (value : ℕ) : Type 0 where
  pub front : List (List ℕ)
  pub direction : List ℕ
  pub angle : ℕ
  pub written : words ≡ front ++ direction ∷ []
  pub spelled : SpellsAngle front angle
  pub within : angle ≤ degrees most
  pub is : ((direction ≡ up) × (value ≡ 2 ^ 31 + angle)) ⊎ ((direction ≡ down) × (value + angle ≡ 2 ^ 31))

-- metres with at most two decimals, in centimetres; the unit may be left out
pub record IsMetres (text : List ℕ) (centimetres : ℕ) : Type 0 where
  pub numeral : List ℕ
  pub is : IsNumeral 2 numeral centimetres
  pub unit : (text ≡ numeral) ⊎ (text ≡ numeral ++ codes "m")

-- the altitude from 100,000 m below the spheroid, of which a negative one is that much less
abbrev pub SpellsAltitude : List ℕ → ℕ → Type 0
SpellsAltitude text altitude =
    (centimetres : ℕ)
    × ((IsMetres text centimetres × (altitude ≡ 10000000 + centimetres))
    ⊎ ((metres : List ℕ) × (text ≡ codes "-" ++ metres) × IsMetres metres centimetres × (altitude + centimetres ≡ 10000000)))

-- A size of at most 90,000,000 m. Of its digits the first is kept, and the others are dropped: it is the largest precision that is not above.
pub record SpellsSize (text : List ℕ) (size : Precision) : Type 0 where
  pub centimetres : ℕ
  pub metres : IsMetres text centimetres
  pub most : centimetres ≤ 9000000000
  pub is : IsPrecision size
  pub below : size.mantissa * 10 ^ size.power ≤ centimetres
  pub above : centimetres < (size.mantissa + 1) * 10 ^ size.power

-- what the size and the precisions are if they are left out
abbrev pub usual_sizes : List (List ℕ)
usual_sizes = codes "1m" ∷ codes "10000m" ∷ codes "10m" ∷ []

-- at most three sizes; those after them are the usual ones
pub record SpellsSizes (words : List (List ℕ)) (sizes : List Precision) : Type 0 where
  pub few : length words ≤ 3
  pub each : AllZip SpellsSize (words ++ drop (length words) usual_sizes) sizes

-- The tokens are the text of a location. Quotes around a token change nothing.
pub record ScansLocation (location : Location) (tokens : List Token) : Type 0 where
  pub latitude : List (List ℕ)
  pub longitude : List (List ℕ)
  pub altitude : List ℕ
  pub sizes : List (List ℕ)
  pub written : map (λ token. token.text) tokens ≡ latitude ++ longitude ++ altitude ∷ sizes
  pub north : SpellsArc 90 (codes "N") (codes "S") latitude location.latitude
  pub east : SpellsArc 180 (codes "E") (codes "W") longitude location.longitude
  pub above : SpellsAltitude altitude location.altitude
  pub high : location.altitude < 2 ^ 32
  pub sized : SpellsSizes sizes (location.size ∷ location.horizontal ∷ location.vertical ∷ [])

-- The tokens are a location, none is left, and its octets follow the old ones.
pub record AppendsLocation (tokens left : List Token) (old new : List ℕ) : Type 0 where
  pub location : Location
  pub scans : ScansLocation location tokens
  pub none : left ≡ []
  pub behind : new ≡ old ++ location_octets location

-- how a location is printed: every field, as the program of RFC 1876 A does it

abbrev pub two_digits : ℕ → List ℕ
two_digits n = (48 + n / 10) ∷ (48 + n % 10) ∷ []

abbrev pub angle_words : ℕ → List (List ℕ)
angle_words angle =
    decimal (angle / 3600000) ∷ two_digits (angle / 60000 % 60)
    ∷ (two_digits (angle / 1000 % 60) ++ codes "." ++ three_digits (angle % 1000)) ∷ []

abbrev pub arc_words : List ℕ → List ℕ → ℕ → List (List ℕ)
arc_words up down value =
    if nat_lt value (2 ^ 31) then angle_words (2 ^ 31 - value) ++ down ∷ [] else angle_words (value - 2 ^ 31) ++ up ∷ []

abbrev pub metres_text : ℕ → List ℕ
metres_text centimetres = decimal (centimetres / 100) ++ codes "." ++ two_digits (centimetres % 100) ++ codes "m"

abbrev pub altitude_text : ℕ → List ℕ
altitude_text altitude =
    if nat_lt altitude 10000000 then codes "-" ++ metres_text (10000000 - altitude) else metres_text (altitude - 10000000)

abbrev pub size_text : Precision → List ℕ
size_text size = metres_text (size.mantissa * 10 ^ size.power)

abbrev pub location_words : Location → List (List ℕ)
location_words location =
    arc_words (codes "N") (codes "S") location.latitude ++ arc_words (codes "E") (codes "W") location.longitude
    ++ altitude_text location.altitude ∷ size_text location.size ∷ size_text location.horizontal ∷ size_text location.vertical ∷ []
