-- What octets begin with, at the place of a label (RFC 1035, section 4.1.4).
use Rattle.std.specs.Prelude.{◌≡◌, ◌+◌, ◌-◌, ◌*◌, ◌<◌, ◌≤◌, ◌⊎◌, ℕ, List, [], ◌∷◌, ◌++◌, length}
use Rattle.dns_label.specs.declared.label.SplitLabelError.{SplitLabelError}
use Rattle.dns_label.specs.declared.label.SplitLabelError.TheVariants.{Pointer, BadType, ShortInput}
use Rattle.dns_label.specs.declared.label.LabelTypeError.TheVariants.{Undefined, Extended}

-- the length of a label, at most 63 octets of it, and then the rest
pub record StartsWithLabel (octets label rest : List ℕ) : Type 0 where
  pub spelled : octets ≡ length label ∷ label ++ rest
  pub short : length label ≤ 63

-- two octets, the first with both top bits set: the other 14 bits are a place
pub record StartsWithPointer (octets : List ℕ) (place : ℕ) : Type 0 where
  pub first : ℕ
  pub second : ℕ
  pub rest : List ℕ
  pub spelled : octets ≡ first ∷ second ∷ rest
  pub both_bits : 192 ≤ first
  pub is : place ≡ 256 * (first - 192) + second

-- the first octet is in a range
pub record StartsWithin (octets : List ℕ) (least below : ℕ) : Type 0 where
  pub first : ℕ
  pub rest : List ℕ
  pub spelled : octets ≡ first ∷ rest
  pub from : least ≤ first
  pub to : first < below

-- the octets end before a label or a pointer is complete
abbrev pub EndsEarly : List ℕ → Type 0
EndsEarly [] = Unit {0}
EndsEarly (first ∷ rest) = ((first ≤ 63) × (length rest < first)) ⊎ ((192 ≤ first) × (rest ≡ []))

-- why no label is split off
abbrev pub NoLabel : List ℕ → SplitLabelError → Type 0
NoLabel octets (Pointer place) = StartsWithPointer octets place
NoLabel octets (BadType Extended) = StartsWithin octets 64 128
NoLabel octets (BadType Undefined) = StartsWithin octets 128 192
NoLabel octets ShortInput = EndsEarly octets
