-- Service parameters as text (RFC 9460 2.1).
use Rattle.std.specs.Prelude.{◌≡◌, ◌<◌, ◌^◌, ◌==◌, ◌||◌, ◌⊎◌, ℕ, true, List, [], ◌∷◌, ◌++◌, length, map, codes, decimal, Some, unwrap_or, if◌then◌else◌}
use Rattle.std.specs.List.{AllZip, flat_map, join_with_byte}
use Rattle.std.specs.List.Sorted.{IsPermutation}
use Rattle.std.specs.Net.Addr.{segments_of}
use Rattle.std.specs.Net.Addr.{octets_of as octets_of_segments}
use Rattle.std.specs.Net.Grammar.{IsDotted, IsColonHex}
use Rattle.std.specs.Net.Text.{ipv4_text, hex_groups_text}
use Rattle.dns_values.specs.Mnemonic.{number_spelled}
use Rattle.dns_scan.specs.Encodings.{Decodes64, encoded_64}
use Rattle.dns_scan.specs.StringText.{Spells, unquoted_text}
use Rattle.dns_scan.specs.Token.{Token, Takes, SpellsOctets, unquoted}
use Rattle.dns_service_parameters.specs.Service.{AreParameters, Parameter, Value, keys, strings, nothing, number, ipv4s, ipv6s, encoded, plain, name_of, octets_of, value_octets}

-- `key` and the number, without leading zeros
abbrev pub number_word : ℕ → List ℕ
number_word key = codes "key" ++ decimal key

-- a key's name, or `key` and its number
abbrev pub SpellsKey : List ℕ → ℕ → Type 0
SpellsKey word key = (name_of key ≡ Some word) ⊎ ((word ≡ number_word key) × (key < 2 ^ 16))

-- an octet of an item of a list: a comma and a backslash are behind a backslash (RFC 9460 A.1)
abbrev pub item_octet : ℕ → List ℕ
item_octet octet = if (octet == 44) || (octet == 92) then 92 ∷ octet ∷ [] else octet ∷ []

-- the items of a list, with a comma between any two
abbrev pub list_text : List (List ℕ) → List ℕ
list_text items = join_with_byte 44 (map (flat_map item_octet) items)

-- the text is a list of items, and each is the text of what it stands for
abbrev pub SpellsEach : {A : Type 0} → (List ℕ → A → Type 0) → List ℕ → List A → Type 0
SpellsEach Item text each = (items : List (List ℕ)) × (text ≡ list_text items) × AllZip Item items each

abbrev pub IsIpv6 : List ℕ → List ℕ → Type 0
IsIpv6 text octets = (segments : List ℕ) × IsColonHex text segments × (octets ≡ octets_of_segments segments)

-- The text of a value, once the escapes of its character string are decoded: lists with commas, mandatory keys in any order,
-- a port in decimal, base 64.
abbrev pub SpellsValue : List ℕ → Value → Type 0
SpellsValue text (keys each) = (listed : List ℕ) × SpellsEach SpellsKey text listed × IsPermutation listed each
SpellsValue text (strings each) = text ≡ list_text each
SpellsValue text nothing = text ≡ []
SpellsValue text (number n) = number_spelled (2 ^ 16) text ≡ Some n
SpellsValue text (ipv4s each) = SpellsEach IsDotted text each
SpellsValue text (ipv6s each) = SpellsEach IsIpv6 text each
SpellsValue text (encoded octets) = Decodes64 text octets
SpellsValue text (plain octets) = text ≡ octets

-- a key by its name with the text of its value, or by its number with the octets of its value
abbrev pub SpellsParameter : List ℕ → List ℕ → Parameter → Type 0
SpellsParameter word text parameter =
    ((name_of parameter.key ≡ Some word) × SpellsValue text parameter.value)
    ⊎ ((word ≡ number_word parameter.key) × (text ≡ value_octets parameter.value))

-- the token is unquoted and has this text
abbrev pub IsBare : List ℕ → Token → Type 0
IsBare text token = token ≡ unquoted text

-- the token is quoted and spells these octets
abbrev pub IsQuoted : List ℕ → Token → Type 0
IsQuoted text token = (token.quoted ≡ true) × SpellsOctets text token

-- The tokens begin with a quoted token of this text, and these are left; or they begin with none, the text is empty, and they stay.
abbrev pub TakesQuoted : List ℕ → List Token → List Token → Type 0
TakesQuoted text tokens left =
    Takes (IsQuoted text) tokens left
    ⊎ (((behind : List Token) → Takes (λ token. token.quoted ≡ true) tokens behind → ⊥) × (text ≡ []) × (left ≡ tokens))

-- The tokens begin with a word and its value, and these are left: `word`, without a value; `word=value`; or `word=` and the token after
-- it if that is quoted, since the quote of `word="value"` begins a token.
abbrev pub TakesWord : List ℕ → List ℕ → List Token → List Token → Type 0
TakesWord word text tokens left =
    (Takes (IsBare word) tokens left × (text ≡ []))
    ⊎ (((written : List ℕ) × (0 < length written) × Takes (IsBare (word ++ 61 ∷ written)) tokens left × Spells written text)
    ⊎ ((behind : List Token) × Takes (IsBare (word ++ 61 ∷ [])) tokens behind × TakesQuoted text behind left))

-- the tokens begin with a parameter, and these are left
pub record ScansParameter (parameter : Parameter) (tokens left : List Token) : Type 0 where
  pub word : List ℕ
  pub text : List ℕ
  pub takes : TakesWord word text tokens left
  pub spells : SpellsParameter word text parameter

-- the tokens are parameters, one after another
abbrev pub ScanInOrder : List Parameter → List Token → Type 0
ScanInOrder [] tokens = tokens ≡ []
ScanInOrder (parameter ∷ others) tokens = (left : List Token) × ScansParameter parameter tokens left × ScanInOrder others left

-- the tokens are the parameters in any order
pub record ScansParameters (parameters : List Parameter) (tokens : List Token) : Type 0 where
  pub are : AreParameters parameters
  pub listed : List Parameter
  pub scanned : ScanInOrder listed tokens
  pub ordered : IsPermutation listed parameters

-- The tokens are parameters, none is left, and the octets of the parameters follow the old ones.
pub record AppendsParameters (tokens left : List Token) (old new : List ℕ) : Type 0 where
  pub parameters : List Parameter
  pub scans : ScansParameters parameters tokens
  pub none : left ≡ []
  pub behind : new ≡ old ++ octets_of parameters

-- how a key is printed
abbrev pub key_text : ℕ → List ℕ
key_text key = unwrap_or (name_of key) (number_word key)

-- the printed text of a value, before the escapes of its character string
abbrev pub value_text : Value → List ℕ
value_text (keys each) = list_text (map key_text each)
value_text (strings each) = list_text each
value_text nothing = []
value_text (number n) = decimal n
value_text (ipv4s each) = list_text (map ipv4_text each)
value_text (ipv6s each) = list_text (map (λ octets. hex_groups_text (segments_of octets)) each)
value_text (encoded octets) = encoded_64 octets
value_text (plain octets) = octets

-- `=` and the text of a value, or nothing where the value has no octets
abbrev pub assigned : List ℕ → List ℕ → List ℕ
assigned [] text = []
assigned (octet ∷ octets) text = 61 ∷ unquoted_text text

-- each parameter is printed as one unquoted token
abbrev pub parameter_text : Parameter → List ℕ
parameter_text parameter = key_text parameter.key ++ assigned (value_octets parameter.value) (value_text parameter.value)
