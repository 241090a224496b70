-- Service parameters, the last field of SVCB and HTTPS records, as octets (RFC 9460 2.2).
use Rattle.std.specs.Prelude.{◌≡◌, ◌≢◌, ◌<◌, ◌≤◌, ◌^◌, ◌==◌, ℕ, true, List, [], ◌∷◌, ◌++◌, length, map, find, codes, ⊤, Option, option_map, unwrap_or}
use Rattle.std.specs.List.{AllByRecursion, concat, flat_map, list_any}
use Rattle.std.specs.Int.{to_be_bytes, w16}
use Rattle.dns_scan.specs.CharStr.{string_wire}
use Rattle.dns_service_parameters.specs.declared.form.Form.{Form}
use Rattle.dns_service_parameters.specs.declared.form.Form.TheVariants.{Keys, Strings, Nothing, Number, Ipv4s, Ipv6s, Encoded, Plain}

-- The table: the keys with a name, and the form of the value of each (RFC 9460 7, 8 and 14.3.2, RFC 9461 5, RFC 9540 4, RFC 9848 2).
-- The value of a key that is not in it may be any octets.
abbrev pub table : List (ℕ × List ℕ × Form)
table =
    (0, codes "mandatory", Keys)
    ∷ (1, codes "alpn", Strings)
    ∷ (2, codes "no-default-alpn", Nothing)
    ∷ (3, codes "port", Number)
    ∷ (4, codes "ipv4hint", Ipv4s)
    ∷ (5, codes "ech", Encoded)
    ∷ (6, codes "ipv6hint", Ipv6s)
    ∷ (7, codes "dohpath", Plain)
    ∷ (8, codes "ohttp", Nothing)
    ∷ []

unfoldable pub name_of : ℕ → Option (List ℕ)
name_of key = option_map (λ row. row.1) (find (λ row. row.0 == key) table)

unfoldable pub form_at : ℕ → Form
form_at key = unwrap_or (option_map (λ row. row.2) (find (λ row. row.0 == key) table)) Plain

-- a value: its form, with what it holds
pub data Value : Type 0 where
  keys : List ℕ → Value
  strings : List (List ℕ) → Value
  nothing : Value
  number : ℕ → Value
  ipv4s : List (List ℕ) → Value
  ipv6s : List (List ℕ) → Value
  encoded : List ℕ → Value
  plain : List ℕ → Value

abbrev pub form_of : Value → Form
form_of (keys each) = Keys
form_of (strings each) = Strings
form_of nothing = Nothing
form_of (number n) = Number
form_of (ipv4s each) = Ipv4s
form_of (ipv6s each) = Ipv6s
form_of (encoded octets) = Encoded
form_of (plain octets) = Plain

-- each number is below those after it
abbrev pub Ascend : List ℕ → Type 0
Ascend [] = ⊤
Ascend (n ∷ others) = AllByRecursion (λ other. n < other) others × Ascend others

-- What a value may hold. The key 0, `mandatory`, does not list itself (RFC 9460 8).
abbrev pub IsValue : Value → Type 0
IsValue (keys each) = (each ≢ []) × AllByRecursion (λ key. (0 < key) × (key < 2 ^ 16)) each × Ascend each
IsValue (strings each) = (each ≢ []) × AllByRecursion (λ string. (0 < length string) × (length string ≤ 255)) each
IsValue nothing = ⊤
IsValue (number n) = n < 2 ^ 16
IsValue (ipv4s each) = (each ≢ []) × AllByRecursion (λ octets. length octets ≡ 4) each
IsValue (ipv6s each) = (each ≢ []) × AllByRecursion (λ octets. length octets ≡ 16) each
IsValue (encoded octets) = octets ≢ []
IsValue (plain octets) = ⊤

abbrev pub value_octets : Value → List ℕ
value_octets (keys each) = flat_map (to_be_bytes w16) each
value_octets (strings each) = flat_map string_wire each
value_octets nothing = []
value_octets (number n) = to_be_bytes w16 n
value_octets (ipv4s each) = concat each
value_octets (ipv6s each) = concat each
value_octets (encoded octets) = octets
value_octets (plain octets) = octets

pub record Parameter : Type 0 where
  pub key : ℕ
  pub value : Value

pub record IsParameter (parameter : Parameter) : Type 0 where
  pub small : parameter.key < 2 ^ 16
  pub formed : form_of parameter.value ≡ form_at parameter.key
  pub fits : IsValue parameter.value
  pub short : length (value_octets parameter.value) < 2 ^ 16

-- the key, the number of the value's octets, and the value
abbrev pub parameter_octets : Parameter → List ℕ
parameter_octets parameter =
    to_be_bytes w16 parameter.key ++ to_be_bytes w16 (length (value_octets parameter.value)) ++ value_octets parameter.value

abbrev pub octets_of : List Parameter → List ℕ
octets_of parameters = flat_map parameter_octets parameters

abbrev pub keys_of : List Parameter → List ℕ
keys_of parameters = map (λ parameter. parameter.key) parameters

abbrev pub IsAmong : ℕ → List ℕ → Type 0
IsAmong key others = list_any (λ other. other == key) others ≡ true

-- the keys that a value lists as mandatory
abbrev pub listed_in : Value → List ℕ
listed_in (keys each) = each
listed_in value = []

-- The keys ascend. Each key that is listed as mandatory is there (RFC 9460 8), and `alpn` is if `no-default-alpn` is (7.1.1).
pub record AreParameters (parameters : List Parameter) : Type 0 where
  pub each : AllByRecursion IsParameter parameters
  pub ascend : Ascend (keys_of parameters)
  pub mandatory : AllByRecursion (λ parameter. AllByRecursion (λ key. IsAmong key (keys_of parameters)) (listed_in parameter.value)) parameters
  pub alpn : IsAmong 2 (keys_of parameters) → IsAmong 1 (keys_of parameters)

-- the octets are those of parameters
pub record HoldsParameters (octets : List ℕ) : Type 0 where
  pub parameters : List Parameter
  pub are : AreParameters parameters
  pub written : octets ≡ octets_of parameters
