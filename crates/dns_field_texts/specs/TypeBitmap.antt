-- Bitmaps of types: windows of 256 types each, in ascending order (RFC 4034, section 4.1.2).
use Rattle.std.specs.Prelude.{◌≡◌, ◌↔◌, ◌+◌, ◌*◌, ◌≤◌, ◌<◌, ◌-◌, ◌==◌, ℕ, zero, suc, List, [], ◌∷◌, ◌++◌, Some, length, map, take, drop, slice_index, if◌then◌else◌}
use Rattle.std.specs.List.{flat_map, Contains}
use Rattle.dns_scan.specs.Bits.{all_bits}
use Rattle.dns_scan.specs.Token.{Token, unquoted, IsWord}
use Rattle.dns_text.specs.Document.{Piece}
use Rattle.dns_text.specs.Document.Piece.{Token as printed}
use Rattle.dns_field_texts.specs.TypeWords.{type_word_read, type_word_written}

-- a window: the high octet of its types' numbers, and its octets
pub record Window : Type 0 where
  pub number : ℕ
  pub octets : List ℕ

-- a window on the wire: its number, how many octets it has, and these
abbrev pub window_octets : Window → List ℕ
window_octets window = window.number ∷ length window.octets ∷ window.octets

-- a window has 1 to 32 octets, and the last is not zero
pub record IsWindow (window : Window) : Type 0 where
  pub small : window.number < 256
  pub some : 0 < length window.octets
  pub few : length window.octets ≤ 32
  pub last : slice_index window.octets (length window.octets - 1) ≡ 0 → ⊥

-- windows in ascending order, with numbers from `low` on
abbrev pub AreWindows : ℕ → List Window → Type 0
AreWindows low [] = Unit {0}
AreWindows low (window ∷ windows) = (low ≤ window.number) × IsWindow window × AreWindows (window.number + 1) windows

-- a bitmap whose windows have numbers from `low` on
pub record IsBitmapFrom (low : ℕ) (octets : List ℕ) : Type 0 where
  pub windows : List Window
  pub are : AreWindows low windows
  pub written : octets ≡ flat_map window_octets windows

-- a bitmap
abbrev pub IsTypeBitmap : List ℕ → Type 0
IsTypeBitmap octets = IsBitmapFrom 0 octets

-- the windows of a bitmap, of which there are at most so many
unfoldable pub windows_up_to : ℕ → List ℕ → List Window
windows_up_to zero octets = []
windows_up_to (suc more) [] = []
windows_up_to (suc more) (number ∷ []) = []
windows_up_to (suc more) (number ∷ count ∷ octets) =
    record { number = number; octets = take count octets } ∷ windows_up_to more (drop count octets)

-- the places of the bits that are one, counted from a number on
abbrev pub ones_from : ℕ → List ℕ → List ℕ
ones_from place [] = []
ones_from place (bit ∷ bits) = if bit == 1 then place ∷ ones_from (place + 1) bits else ones_from (place + 1) bits

-- the types of a window: bit 0, the highest of the first octet, stands for the first of its 256 types
abbrev pub window_types : Window → List ℕ
window_types window = ones_from (256 * window.number) (all_bits 8 window.octets)

-- the types of a bitmap, in ascending order
unfoldable pub types_in : List ℕ → List ℕ
types_in octets = flat_map window_types (windows_up_to (length octets) octets)

-- the octets are a bitmap, and its types are those of the list
pub record IsBitmapOf (types octets : List ℕ) : Type 0 where
  pub bitmap : IsTypeBitmap octets
  pub same : (type : ℕ) → Contains (types_in octets) type ↔ Contains types type

-- the token is a word that spells the type
pub record SpellsType (token : Token) (type : ℕ) : Type 0 where
  pub text : List ℕ
  pub word : IsWord text token
  pub reads : type_word_read text ≡ Some type

-- the tokens spell the types, each one
abbrev pub SpellTypes : List Token → List ℕ → Type 0
SpellTypes [] types = types ≡ []
SpellTypes (token ∷ tokens) types =
    (type : ℕ) × (more : List ℕ) × SpellsType token type × SpellTypes tokens more × (types ≡ type ∷ more)

-- all tokens spell types, in any order, and none is left; these are the types of the bitmap
pub record ScansTypes (tokens left : List Token) (octets : List ℕ) : Type 0 where
  pub types : List ℕ
  pub spelled : SpellTypes tokens types
  pub none : left ≡ []
  pub bitmap : IsBitmapOf types octets

-- the same, and the bitmap follows the old octets
pub record AppendsTypes (tokens left : List Token) (old new : List ℕ) : Type 0 where
  pub octets : List ℕ
  pub scans : ScansTypes tokens left octets
  pub behind : new ≡ old ++ octets

-- the tokens are not all of types
abbrev pub SpellsNoTypes : List Token → Type 0
SpellsNoTypes tokens = (types : List ℕ) → SpellTypes tokens types → ⊥

-- how types are printed: a token for each
abbrev pub type_pieces : List ℕ → List Piece
type_pieces types = map (λ type. printed (type_word_written type)) types

-- these tokens
abbrev pub printed_types : List ℕ → List Token
printed_types types = map (λ type. unquoted (type_word_written type)) types
