-- Text as strings, and strings while they are built (RFC 1035 3.3.14).
use Rattle.std.specs.Prelude.{◌≡◌, ◌≤◌, ◌<◌, ◌+◌, ◌/◌, ℕ, List, [], ◌∷◌, ◌++◌, length, take, drop, Option, Some, None}
use Rattle.std.specs.List.{AllByRecursion, concat, flat_map}
use Rattle.dns_text.specs.CharStr.{string_wire}
use Rattle.dns_fields.specs.Fields.{IsString}
use Rattle.dns_fields.specs.Strings.{strings_of}

-- what is built: the closed strings, and the octets of the open one, which are none where no string is open
pub record Built : Type 0 where
  pub closed : List (List ℕ)
  pub begun : List ℕ

abbrev pub nothing_built : Built
nothing_built = record { closed = []; begun = [] }

-- the string of these octets, unless there are none
abbrev pub open_string : List ℕ → List (List ℕ)
open_string [] = []
open_string (octet ∷ octets) = (octet ∷ octets) ∷ []

-- all strings, the open one last
abbrev pub strings_built : Built → List (List ℕ)
strings_built built = built.closed ++ open_string built.begun

-- no string is open any more
abbrev pub all_closed : Built → Built
all_closed built = record { closed = strings_built built; begun = [] }

-- a whole string after them
abbrev pub with_string : Built → List ℕ → Built
with_string built string = record { closed = strings_built built ++ string ∷ []; begun = [] }

-- text is strings of 255 octets, and fewer octets after them
pub record IsCut (text : List ℕ) (full : List (List ℕ)) (rest : List ℕ) : Type 0 where
  pub whole : text ≡ concat full ++ rest
  pub each : AllByRecursion (λ string. length string ≡ 255) full
  pub short : length rest < 255

-- The open string goes on with text. One that has 255 octets is closed, and what follows begins another.
pub record GoesOn (old : Built) (text : List ℕ) (new : Built) : Type 0 where
  pub full : List (List ℕ)
  pub cut : IsCut (old.begun ++ text) full new.begun
  pub closed : new.closed ≡ old.closed ++ full

-- the number of octets that text of this number of octets has as strings: one more for each 255, begun or whole
abbrev pub text_len : ℕ → ℕ
text_len count = count + (count + 254) / 255

-- how many octets strings have
abbrev pub strings_len : List (List ℕ) → ℕ
strings_len each = length (flat_map string_wire each)

-- data has one empty string in place of none
abbrev pub some_strings : List (List ℕ) → List (List ℕ)
some_strings [] = [] ∷ []
some_strings (string ∷ each) = string ∷ each

-- the strings of 255 octets and a rest that text is, or an empty one
pub record AreTextStrings (text : List ℕ) (each : List (List ℕ)) : Type 0 where
  pub full : List (List ℕ)
  pub rest : List ℕ
  pub cut : IsCut text full rest
  pub is : each ≡ some_strings (full ++ open_string rest)

-- the place of the open string's length, given where the closed ones end
abbrev pub open_place : ℕ → List ℕ → Option ℕ
open_place place [] = None
open_place place (octet ∷ octets) = Some place

-- These octets hold what is built, and the open string's length is at a place.
pub record StandsFor (octets : List ℕ) (head : Option ℕ) (built : Built) : Type 0 where
  pub each : AllByRecursion IsString built.closed
  pub short : length built.begun < 255
  pub whole : octets ≡ flat_map string_wire (strings_built built)
  pub few : length octets ≤ 65535
  pub place : head ≡ open_place (strings_len built.closed) built.begun

-- what octets hold, given the place of the open string's length
abbrev pub built_of : List ℕ → Option ℕ → Built
built_of octets None = record { closed = strings_of octets; begun = [] }
built_of octets (Some place) = record { closed = strings_of (take place octets); begun = drop (place + 1) octets }

-- the strings of a text follow octets, the length of the last at a place if it has fewer than 255 octets
pub record AddsText (old text new : List ℕ) (head : Option ℕ) : Type 0 where
  pub full : List (List ℕ)
  pub rest : List ℕ
  pub cut : IsCut text full rest
  pub written : new ≡ old ++ flat_map string_wire (full ++ open_string rest)
  pub place : head ≡ open_place (length old + strings_len full) rest
