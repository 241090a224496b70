-- The octets of a location are those of no other.
use Rattle.std.proofs.Common.{◌≡◌, ◌+◌, ◌*◌, ◌/◌, ◌%◌, ◌<◌, ◌≤◌, ◌^◌, ℕ, List, [], ◌∷◌, ◌++◌, refl, sym, ◌∙◌, ap, arith}
use Rattle.dns_field_texts.specs.Location.{IsLocation, IsPrecision, IsWithin, Location, Precision, degrees, location_octets, precision_octet}

precision_one : (one other : Precision) → IsPrecision one → IsPrecision other → precision_octet one ≡ precision_octet other → one ≡ other
precision_one one other is also same =
    let a = is.mantissa in
    let b = is.power in
    let c = also.mantissa in
    let d = also.power in
    let first : one.mantissa ≡ other.mantissa = omega (arith, same) in
    let second : one.power ≡ other.power = omega (arith, same) in
    λ i. record { mantissa = first i; power = second i }

number_one : (n m : ℕ) → n < 2 ^ 32 → m < 2 ^ 32 → n / 16777216 % 256 ≡ m / 16777216 % 256 → n / 65536 % 256 ≡ m / 65536 % 256
    → n / 256 % 256 ≡ m / 256 % 256 → n % 256 ≡ m % 256 → n ≡ m
number_one n m few less a b c d = omega arith

within_small : (most value : ℕ) → most ≤ 180 → IsWithin most value → value < 2 ^ 32
within_small most value few is = let high = is.high in omega arith

pub location_one : (one other : Location) → IsLocation one → IsLocation other → location_octets one ≡ location_octets other → one ≡ other
location_one one other is also same =
    let size = precision_one one.size other.size is.size also.size (cc) in
    let horizontal = precision_one one.horizontal other.horizontal is.horizontal also.horizontal (cc) in
    let vertical = precision_one one.vertical other.vertical is.vertical also.vertical (cc) in
    let latitude = number_one one.latitude other.latitude (within_small 90 one.latitude (omega arith) is.latitude)
    (within_small 90 other.latitude (omega arith) also.latitude) (cc) (cc) (cc) (cc) in
    let longitude = number_one one.longitude other.longitude (within_small 180 one.longitude (omega arith) is.longitude)
    (within_small 180 other.longitude (omega arith) also.longitude) (cc) (cc) (cc) (cc) in
    let altitude = number_one one.altitude other.altitude is.altitude also.altitude (cc) (cc) (cc) (cc) in λ i. record {
      size = size i;
      horizontal = horizontal i;
      vertical = vertical i;
      latitude = latitude i;
      longitude = longitude i;
      altitude = altitude i;
    }
