-- The data of a LOC record, as octets (RFC 1876 2).
use Rattle.std.specs.Prelude.{◌≡◌, ◌+◌, ◌*◌, ◌<◌, ◌≤◌, ◌^◌, ℕ, List, [], ◌∷◌, ◌++◌}
use Rattle.std.specs.Int.{to_be_bytes, w32}

-- a length in centimetres: the mantissa times that power of ten
pub record Precision : Type 0 where
  pub mantissa : ℕ
  pub power : ℕ

-- Both have one digit. A power other than 0 of a mantissa of 0 is undefined.
pub record IsPrecision (precision : Precision) : Type 0 where
  pub mantissa : precision.mantissa < 10
  pub power : precision.power < 10
  pub zero : precision.mantissa ≡ 0 → precision.power ≡ 0

abbrev pub precision_octet : Precision → ℕ
precision_octet precision = 16 * precision.mantissa + precision.power

-- A place: the diameter of what is described, and of the errors; the latitude and the longitude in thousandths of a second of arc,
-- where 2 ^ 31 is the equator and the prime meridian; and the altitude in centimetres above 100,000 m below the WGS 84 spheroid.
pub record Location : Type 0 where
  pub size : Precision
  pub horizontal : Precision
  pub vertical : Precision
  pub latitude : ℕ
  pub longitude : ℕ
  pub altitude : ℕ

-- thousandths of a second of arc in that many degrees
abbrev pub degrees : ℕ → ℕ
degrees n = n * 3600000

-- the number is at most that many degrees from 2 ^ 31
pub record IsWithin (most value : ℕ) : Type 0 where
  pub low : 2 ^ 31 ≤ value + degrees most
  pub high : value ≤ 2 ^ 31 + degrees most

pub record IsLocation (location : Location) : Type 0 where
  pub size : IsPrecision location.size
  pub horizontal : IsPrecision location.horizontal
  pub vertical : IsPrecision location.vertical
  pub latitude : IsWithin 90 location.latitude
  pub longitude : IsWithin 180 location.longitude
  pub altitude : location.altitude < 2 ^ 32

-- the version 0, and then the fields
abbrev pub location_octets : Location → List ℕ
location_octets location =
    0 ∷ precision_octet location.size ∷ precision_octet location.horizontal ∷ precision_octet location.vertical
    ∷ to_be_bytes w32 location.latitude ++ to_be_bytes w32 location.longitude ++ to_be_bytes w32 location.altitude

-- the octets are those of a location
pub record HoldsLocation (octets : List ℕ) : Type 0 where
  pub location : Location
  pub is : IsLocation location
  pub written : octets ≡ location_octets location
