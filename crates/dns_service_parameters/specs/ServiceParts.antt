-- Service parameters while they are read one by one. Only contracts inside the crate name it.
use Rattle.std.specs.Prelude.{◌≡◌, ◌+◌, ◌<◌, ◌≤◌, ◌^◌, ◌↔◌, ℕ, zero, suc, Bool, List, [], ◌∷◌, ◌++◌, length, take, drop, IsTrue, ⊤}
use Rattle.std.specs.Int.{from_be_bytes, to_be_bytes, w16}
use Rattle.std.specs.Net.Addr.{segments_of}
use Rattle.std.specs.List.{AllByRecursion}
use Rattle.dns_fields.specs.Strings.{strings_of}
use Rattle.dns_service_parameters.specs.declared.form.Form.{Form}
use Rattle.dns_service_parameters.specs.declared.form.Form.TheVariants.{Keys, Strings, Nothing, Number, Ipv4s, Ipv6s, Encoded, Plain}
use Rattle.dns_service_parameters.specs.Service.{IsAmong, IsParameter, IsValue, Parameter, Value, encoded, form_at, form_of, ipv4s, ipv6s, keys, keys_of, listed_in, nothing, number, octets_of, plain, strings, value_octets}

-- the octets begin with a key and a value, and then the rest
pub record StartsWithPart (octets : List ℕ) (key : ℕ) (value rest : List ℕ) : Type 0 where
  pub small : key < 2 ^ 16
  pub short : length value < 2 ^ 16
  pub written : octets ≡ to_be_bytes w16 key ++ to_be_bytes w16 (length value) ++ value ++ rest

abbrev pub StartsWithNone : List ℕ → Type 0
StartsWithNone octets = (key : ℕ) (value rest : List ℕ) → StartsWithPart octets key value rest → ⊥

-- the octets are those of a value of the form
pub record HoldsValue (form : Form) (octets : List ℕ) : Type 0 where
  pub value : Value
  pub formed : form_of value ≡ form
  pub fits : IsValue value
  pub written : value_octets value ≡ octets

-- each number is above the one before it, and the first is not below `least`
abbrev pub AscendFrom : ℕ → List ℕ → Type 0
AscendFrom least [] = ⊤
AscendFrom least (n ∷ others) = (least ≤ n) × AscendFrom (n + 1) others

-- the octets are those of parameters, whose keys ascend from there
pub record HoldsOrdered (least : ℕ) (octets : List ℕ) : Type 0 where
  pub parameters : List Parameter
  pub each : AllByRecursion IsParameter parameters
  pub ascend : AscendFrom least (keys_of parameters)
  pub written : octets ≡ octets_of parameters

-- the test answers what holds of all parameters that have these octets
abbrev pub Decides : List ℕ → (List Parameter → Type 0) → Bool → Type 0
Decides octets P result =
    (parameters : List Parameter) → AllByRecursion IsParameter parameters → AscendFrom 0 (keys_of parameters) → octets ≡ octets_of parameters
    → IsTrue result ↔ P parameters

-- each mandatory key is there
abbrev pub HasMandatory : List Parameter → Type 0
HasMandatory parameters =
    AllByRecursion (λ parameter. AllByRecursion (λ key. IsAmong key (keys_of parameters)) (listed_in parameter.value)) parameters

-- the first pieces of that size, at most that number
abbrev pub first_pieces : ℕ → ℕ → List ℕ → List (List ℕ)
first_pieces size zero octets = []
first_pieces size (suc count) [] = []
first_pieces size (suc count) (octet ∷ octets) = take size (octet ∷ octets) ∷ first_pieces size count (drop size (octet ∷ octets))

abbrev pub pieces : ℕ → List ℕ → List (List ℕ)
pieces size octets = first_pieces size (length octets) octets

-- the value of the form that these octets are
abbrev pub read_value : Form → List ℕ → Value
read_value Keys octets = keys (segments_of octets)
read_value Strings octets = strings (strings_of octets)
read_value Nothing octets = nothing
read_value Number octets = number (from_be_bytes w16 octets)
read_value Ipv4s octets = ipv4s (pieces 4 octets)
read_value Ipv6s octets = ipv6s (pieces 16 octets)
read_value Encoded octets = encoded octets
read_value Plain octets = plain octets

-- the parameter of this key that has these octets as its value
abbrev pub read_parameter : ℕ → List ℕ → Parameter
read_parameter key octets = record { key = key; value = read_value (form_at key) octets }
