-- Parameters and locations, read back from their octets.
use Rattle.std.proofs.Common.{◌≡◌, ◌+◌, ◌*◌, ◌/◌, ◌%◌, ◌<◌, ◌≤◌, ◌^◌, ℕ, zero, suc, w16, w32, List, [], ◌∷◌, ◌++◌, ◌∙◌, length, take, drop, ap, sym, refl, arith, length-append}
use Rattle.std.specs.Int.{from_be_bytes, to_be_bytes}
use Rattle.std.specs.List.{AllByRecursion, concat, flat_map}
use Rattle.std.specs.Net.Addr.{segments_of}
use Rattle.std.proofs.Math.Seq.{take-append_seam, drop-append_seam}
use Rattle.std.proofs.lemmas.Nat.{from_be_bytes-to_be_bytes_2, from_be_bytes-to_be_bytes_4}
use Rattle.dns_fields.proofs.StringsOf.{strings_of-written}
use Rattle.dns_service_parameters.specs.Service.{IsParameter, IsValue, Parameter, Value, keys, strings, nothing, number, ipv4s, ipv6s, encoded, plain, form_at, form_of, octets_of, value_octets}
use Rattle.dns_service_parameters.specs.ServiceParts.{first_pieces, read_parameter, read_value}
use Rattle.dns_field_texts.specs.Location.{IsLocation, IsPrecision, Location, Precision, location_octets, precision_octet}
use Rattle.dns_rdata_more.specs.Shown.{location_read, parameters_read, parameters_up_to, precision_read}

-- numbers of two octets each
segments_back : (each : List ℕ) → AllByRecursion (λ key. (0 < key) × (key < 2 ^ 16)) each → segments_of (flat_map (to_be_bytes w16) each) ≡ each
segments_back [] all = refl
segments_back (key ∷ each) all =
    let small : key < 2 ^ 16 = all.0.1 in
    let one : key / 256 % 256 * 256 + key % 256 ≡ key = omega arith in
    let others = segments_back each all.1 in
    λ i. one i ∷ others i

-- pieces of one size
pieces_back : (size : ℕ) (each : List (List ℕ)) (count : ℕ) → 0 < size → AllByRecursion (λ octets. length octets ≡ size) each
    → length (concat each) ≤ count → first_pieces size count (concat each) ≡ each
pieces_back size [] zero some all few = refl
pieces_back size [] (suc count) some all few = refl
pieces_back size ([] ∷ each) count some all few = absurd (let none = all.0 in omega (arith, none))
pieces_back size ((octet ∷ octets) ∷ each) zero some all few = absurd (omega arith)
pieces_back size ((octet ∷ octets) ∷ each) (suc count) some all few =
    let piece : List ℕ = octet ∷ octets in
    let long : size ≡ length piece = sym all.0 in
    let front : take size (piece ++ concat each) ≡ piece = ap (λ (n : ℕ). take n (piece ++ concat each)) long ∙ take-append_seam piece (concat each) in
    let back : drop size (piece ++ concat each) ≡ concat each = ap (λ (n : ℕ). drop n (piece ++ concat each)) long ∙ drop-append_seam piece (concat each) in
    let others : first_pieces size count (drop size (piece ++ concat each)) ≡ each =
    ap (first_pieces size count) back ∙ pieces_back size each count some all.1 (omega (arith, few, length-append octets (concat each))) in
    λ i. front i ∷ others i

-- a value is read from its octets
value_back : (value : Value) → IsValue value → read_value (form_of value) (value_octets value) ≡ value
value_back (keys each) is = ap keys (segments_back each is.1)
value_back (strings each) is = ap strings (strings_of-written each)
value_back nothing is = refl
value_back (number n) is = ap number (from_be_bytes-to_be_bytes_2 n is)
value_back (ipv4s each) is = ap ipv4s (pieces_back 4 each (length (concat each)) (omega arith) is.1 (omega arith))
value_back (ipv6s each) is = ap ipv6s (pieces_back 16 each (length (concat each)) (omega arith) is.1 (omega arith))
value_back (encoded octets) is = refl
value_back (plain octets) is = refl

parameter_back : (parameter : Parameter) → IsParameter parameter → read_parameter parameter.key (value_octets parameter.value) ≡ parameter
parameter_back parameter is =
    let value : read_value (form_at parameter.key) (value_octets parameter.value) ≡ parameter.value =
    ap (λ form. read_value form (value_octets parameter.value)) (sym is.formed) ∙ value_back parameter.value is.fits in
    ap (λ (v : Value). record { key = parameter.key; value = v }) value

up_to_back : (parameters : List Parameter) (more : ℕ) → AllByRecursion IsParameter parameters → length parameters ≤ more
    → parameters_up_to more (octets_of parameters) ≡ parameters
up_to_back [] zero all few = refl
up_to_back [] (suc more) all few = refl
up_to_back (parameter ∷ parameters) zero all few = absurd (omega arith)
up_to_back (parameter ∷ parameters) (suc more) all few =
    let is : IsParameter parameter = all.0 in
    let value : List ℕ = value_octets parameter.value in
    let rest : List ℕ = octets_of parameters in
    let key : from_be_bytes w16 (to_be_bytes w16 parameter.key) ≡ parameter.key = from_be_bytes-to_be_bytes_2 parameter.key is.small in
    let size : from_be_bytes w16 (to_be_bytes w16 (length value)) ≡ length value = from_be_bytes-to_be_bytes_2 (length value) is.short in
    let front : take (from_be_bytes w16 (to_be_bytes w16 (length value))) (value ++ rest) ≡ value =
    ap (λ (n : ℕ). take n (value ++ rest)) size ∙ take-append_seam value rest in
    let back : drop (from_be_bytes w16 (to_be_bytes w16 (length value))) (value ++ rest) ≡ rest =
    ap (λ (n : ℕ). drop n (value ++ rest)) size ∙ drop-append_seam value rest in
    let first : read_parameter (from_be_bytes w16 (to_be_bytes w16 parameter.key)) (take (from_be_bytes w16 (to_be_bytes w16 (length value))) (value ++ rest)) ≡ parameter =
    (λ i. read_parameter (key i) (front i)) ∙ parameter_back parameter is in
    let others : parameters_up_to more (drop (from_be_bytes w16 (to_be_bytes w16 (length value))) (value ++ rest)) ≡ parameters =
    ap (parameters_up_to more) back ∙ up_to_back parameters more all.1 (omega (arith, few)) in
    λ i. first i ∷ others i

enough : (parameters : List Parameter) → length parameters ≤ length (octets_of parameters)
enough [] = omega arith
enough (parameter ∷ parameters) =
    omega (arith, enough parameters, length-append (value_octets parameter.value) (octets_of parameters))

pub parameters_back : (parameters : List Parameter) → AllByRecursion IsParameter parameters → parameters_read (octets_of parameters) ≡ parameters
parameters_back parameters all = up_to_back parameters (length (octets_of parameters)) all (enough parameters)

-- a location is read from its octets
precision_back : (precision : Precision) → IsPrecision precision → precision_read (precision_octet precision) ≡ precision
precision_back precision is =
    let m : (16 * precision.mantissa + precision.power) / 16 ≡ precision.mantissa = omega (arith, is.power) in
    let p : (16 * precision.mantissa + precision.power) % 16 ≡ precision.power = omega (arith, is.power) in
    λ i. record { mantissa = m i; power = p i }

pub location_back : (location : Location) → IsLocation location → location_read (location_octets location) ≡ location
location_back location is =
    let size = precision_back location.size is.size in
    let horizontal = precision_back location.horizontal is.horizontal in
    let vertical = precision_back location.vertical is.vertical in
    let latitude : from_be_bytes w32 (to_be_bytes w32 location.latitude) ≡ location.latitude =
    from_be_bytes-to_be_bytes_4 location.latitude (omega (arith, is.latitude.high)) in
    let longitude : from_be_bytes w32 (to_be_bytes w32 location.longitude) ≡ location.longitude =
    from_be_bytes-to_be_bytes_4 location.longitude (omega (arith, is.longitude.high)) in
    let altitude : from_be_bytes w32 (to_be_bytes w32 location.altitude) ≡ location.altitude =
    from_be_bytes-to_be_bytes_4 location.altitude is.altitude in
    λ i. record {
      size = size i;
      horizontal = horizontal i;
      vertical = vertical i;
      latitude = latitude i;
      longitude = longitude i;
      altitude = altitude i;
    }
