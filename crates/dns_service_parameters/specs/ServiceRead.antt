-- Parts of the text of service parameters. Only contracts inside the crate name it.
use Rattle.std.specs.Prelude.{◌≡◌, ◌≢◌, ◌<◌, ◌≤◌, ◌^◌, ℕ, Bool, true, false, List, [], ◌∷◌, ◌++◌, length, Option, None, Some}
use Rattle.std.specs.Int.{to_be_bytes, w16}
use Rattle.std.specs.List.{AllZip, flat_map}
use Rattle.dns_scan.specs.CharStr.{string_wire}
use Rattle.dns_scan.specs.Token.{Token}
use Rattle.dns_service_parameters.specs.declared.form.Form.{Form}
use Rattle.dns_service_parameters.specs.declared.keys.KeyWord.{KeyWord}
use Rattle.dns_service_parameters.specs.declared.scan.Written.{Written}
use Rattle.dns_service_parameters.specs.Service.{IsParameter, IsValue, Parameter, Value, form_at, form_of, name_of, value_octets}
use Rattle.dns_service_parameters.specs.ServiceText.{ScanInOrder, ScansParameter, ScansParameters, SpellsEach, SpellsKey, SpellsValue, TakesWord, item_octet, number_word}

-- the word is the name or the number of the key
pub record IsKeyWord (word : List ℕ) (key : KeyWord) : Type 0 where
  pub named : key.named ≡ true → name_of key.key ≡ Some word
  pub numbered : key.named ≡ false → (word ≡ number_word key.key) × (key.key < 2 ^ 16)

-- the text is that of a value of the form, whose octets follow the old ones
pub record AppendsValue (form : Form) (text old new : List ℕ) : Type 0 where
  pub value : Value
  pub formed : form_of value ≡ form
  pub fits : IsValue value
  pub spells : SpellsValue text value
  pub behind : new ≡ old ++ value_octets value

-- the text is that of no value of the form
abbrev pub SpellsNoValue : Form → List ℕ → Type 0
SpellsNoValue form text = (value : Value) → form_of value ≡ form → IsValue value → SpellsValue text value → ⊥

-- the text is a list of one key or more
pub record SpellsKeys (text each : List ℕ) : Type 0 where
  pub spells : SpellsEach SpellsKey text each
  pub some : each ≢ []

-- a comma and the other items of a list, if there are any
abbrev pub other_items : Option (List ℕ) → List ℕ
other_items None = []
other_items (Some others) = 44 ∷ others

-- the text is that of a list that begins with the string
pub record StartsWithString (text string : List ℕ) (others : Option (List ℕ)) : Type 0 where
  pub some : 0 < length string
  pub short : length string ≤ 255
  pub written : text ≡ flat_map item_octet string ++ other_items others

-- the text begins with a string, whose octets follow the old ones
pub record AppendsString (text : List ℕ) (others : Option (List ℕ)) (old new : List ℕ) : Type 0 where
  pub string : List ℕ
  pub starts : StartsWithString text string others
  pub behind : new ≡ old ++ string_wire string

-- the octets of a parameter that was read: its key, the length of its value, and its value
abbrev pub written_octets : Written → List ℕ
written_octets written = to_be_bytes w16 written.key ++ to_be_bytes w16 (length written.value.items) ++ written.value.items

-- the text is that of the value, if its key is written by its name, and else the octets of the value
abbrev pub WritesValue : Bool → List ℕ → Value → Type 0
WritesValue true text value = SpellsValue text value
WritesValue false text value = text ≡ value_octets value

-- the text is that of a value of the key, which has these octets
pub record ReadsValue (word : KeyWord) (text octets : List ℕ) : Type 0 where
  pub value : Value
  pub formed : form_of value ≡ form_at word.key
  pub fits : IsValue value
  pub writes : WritesValue word.named text value
  pub is : value_octets value ≡ octets

-- the text is that of no value of the key
abbrev pub ReadsNoValue : KeyWord → List ℕ → Type 0
ReadsNoValue word text = (value : Value) → form_of value ≡ form_at word.key → IsValue value → WritesValue word.named text value → ⊥

-- the tokens begin with the word of a key and the text of its value
pub record TakesKey (tokens left : List Token) (key : KeyWord) (text : List ℕ) : Type 0 where
  pub word : List ℕ
  pub is : IsKeyWord word key
  pub takes : TakesWord word text tokens left

-- the parameter has the key and the octets that were read
pub record IsWritten (parameter : Parameter) (written : Written) : Type 0 where
  pub key : parameter.key ≡ written.key
  pub value : value_octets parameter.value ≡ written.value.items
  pub small : parameter.key < 2 ^ 16
  pub formed : form_of parameter.value ≡ form_at parameter.key
  pub fits : IsValue parameter.value

-- the tokens begin with a parameter that has this key and these octets
pub record TakesParameter (tokens left : List Token) (written : Written) : Type 0 where
  pub parameter : Parameter
  pub scans : ScansParameter parameter tokens left
  pub is : IsWritten parameter written

-- no parameter is at the front of the tokens
abbrev pub NoParameter : List Token → Type 0
NoParameter tokens = (parameter : Parameter) (left : List Token) → IsParameter parameter → ScansParameter parameter tokens left → ⊥

-- the tokens are parameters that have these keys and octets, one after another
pub record AreWritten (tokens : List Token) (written : List Written) : Type 0 where
  pub listed : List Parameter
  pub scanned : ScanInOrder listed tokens
  pub each : AllZip IsWritten listed written

-- the tokens are no parameters
abbrev pub NoParameters : List Token → Type 0
NoParameters tokens = (parameters : List Parameter) → ScansParameters parameters tokens → ⊥
