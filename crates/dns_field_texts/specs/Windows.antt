-- Parts of bitmaps. Only contracts inside the crate name them.
use Rattle.std.specs.Prelude.{◌≡◌, ◌↔◌, ◌⊎◌, ◌+◌, ◌≤◌, ◌<◌, ◌-◌, ℕ, List, [], ◌∷◌, ◌++◌, drop, length, replicate, slice_index}
use Rattle.std.specs.List.{Contains}
use Rattle.dns_scan.specs.Bits.{all_bits}
use Rattle.dns_field_texts.specs.TypeBitmap.{IsBitmapFrom, IsTypeBitmap, ones_from, types_in}

-- the octets begin with a window, if its octets are ones of a window
pub record BeginsWithWindow (octets : List ℕ) (number : ℕ) (window behind : List ℕ) : Type 0 where
  pub written : octets ≡ number ∷ length window ∷ (window ++ behind)
  pub small : number < 256

-- 1 to 32 octets, and the last is not zero
pub record AreWindowOctets (octets : List ℕ) : Type 0 where
  pub some : 0 < length octets
  pub few : length octets ≤ 32
  pub last : slice_index octets (length octets - 1) ≡ 0 → ⊥

-- a bitmap with these types
pub record IsBitmapWith (types octets : List ℕ) : Type 0 where
  pub bitmap : IsTypeBitmap octets
  pub are : types_in octets ≡ types

-- the octets without the zeros at their end
pub record IsTrimmed (octets trimmed : List ℕ) : Type 0 where
  pub zeros : ℕ
  pub is : octets ≡ trimmed ++ replicate zeros 0
  pub last : (trimmed ≡ []) ⊎ (slice_index trimmed (length trimmed - 1) ≡ 0 → ⊥)

-- the new list has the elements of the old one, and this one
abbrev pub HasAlso : List ℕ → List ℕ → ℕ → Type 0
HasAlso old new also = (other : ℕ) → Contains new other ↔ (Contains old other ⊎ (other ≡ also))

-- a window, or nothing without octets
abbrev pub window_or_none : ℕ → List ℕ → List ℕ
window_or_none number [] = []
window_or_none number (octet ∷ octets) = number ∷ length (octet ∷ octets) ∷ octet ∷ octets

-- the types of a window from the bit at a place on
abbrev pub types_behind : ℕ → List ℕ → ℕ → List ℕ
types_behind first window place = ones_from (first + place) (drop place (all_bits 8 window))

-- a window, or none, whose types begin with the first, and a bitmap behind it
pub record AreTypesLeft (first : ℕ) (window left : List ℕ) : Type 0 where
  pub small : first ≤ 65280
  pub few : length window ≤ 32
  pub low : ℕ
  pub behind : IsBitmapFrom low left
