-- A text while it is decoded.
use Rattle.std.specs.Prelude.{◌≡◌, ◌*◌, ◌<◌, ◌≤◌, ◌+◌, ◌⊎◌, ℕ, List, [], ◌∷◌, ◌++◌, length, map, replicate, Option, None, Some}
use Rattle.std.specs.List.{AllByRecursion}
use Rattle.dns_label.specs.Octets.{AreOctets}
use Rattle.dns_scan.specs.declared.encoding.base.Base.{Base}
use Rattle.dns_scan.specs.declared.encoding.base.Base.TheVariants.{Sixteen, ThirtyTwoHex, SixtyFour}
use Rattle.dns_scan.specs.declared.encoding.decode_error.DecodeError.{DecodeError}
use Rattle.dns_scan.specs.declared.encoding.decode_error.DecodeError.TheVariants.{IllegalChar, TrailingInput, ShortInput, ShortBuf}
use Rattle.dns_scan.specs.Bits.{all_bits}
use Rattle.dns_scan.specs.Base.{width, digit, IsCharacter, Decodes}

-- how far a decoder has come: the whole octets, the bits that wait for others, the pads, and the error that it keeps
pub record Progress : Type 0 where
  pub octets : List ℕ
  pub waiting : List ℕ
  pub pads : ℕ
  pub error : Option DecodeError

-- what is held of a text until more of it comes: the bits that wait for others, and the pads
pub record Held : Type 0 where
  pub waiting : List ℕ
  pub pads : ℕ

-- the progress if there was no error
abbrev pub progress_of : List ℕ → Held → Progress
progress_of octets held = record { octets = octets; waiting = held.waiting; pads = held.pads; error = None }

-- the octet that is whole, if there is one
abbrev pub octet_in : Option ℕ → List ℕ
octet_in None = []
octet_in (Some octet) = octet ∷ []

-- Pads are only in base 64, after bits that are too few for another character, and no more than there may be: one for
-- two bits.
abbrev pub MayBePadded : Base → ℕ → ℕ → Type 0
MayBePadded base pads bits = (pads ≡ 0) ⊎ ((base ≡ SixtyFour) × (bits < 6) × (2 * pads ≤ bits))

-- the decoder has taken this text and no error has come
pub record HasRead (base : Base) (progress : Progress) (text : List ℕ) : Type 0 where
  pub sound : progress.error ≡ None
  pub characters : List ℕ
  pub written : text ≡ characters ++ replicate progress.pads 61
  pub each : AllByRecursion (IsCharacter base) characters
  pub are_octets : AreOctets progress.octets
  pub cut : all_bits (width base) (map (digit base) characters) ≡ all_bits 8 progress.octets ++ progress.waiting
  pub little : length progress.waiting < 8
  pub padded : MayBePadded base progress.pads (length progress.waiting)

-- the bits that wait are too few for another character, and in base 64 there is a pad for every two
abbrev pub IsWhole : Base → ℕ → ℕ → Type 0
IsWhole Sixteen pads bits = bits < 4
IsWhole ThirtyTwoHex pads bits = bits < 5
IsWhole SixtyFour pads bits = (bits < 6) × (2 * pads ≡ bits)

-- no text that continues with the character after what was taken is one of octets
abbrev pub NoneGoesOn : Base → Progress → ℕ → Type 0
NoneGoesOn base progress c =
    (text more octets : List ℕ) → HasRead base progress text → Decodes base (text ++ c ∷ more) octets → ⊥

-- the character completes an octet, after that number of pads and waiting bits
abbrev pub MakesWhole : Base → ℕ → ℕ → ℕ → Type 0
MakesWhole base pads bits c = (pads ≡ 0) × IsCharacter base c × (8 ≤ bits + width base)

-- Why a character is refused after what was taken: before any pad, for what it is; after a pad, for its place; and if
-- it completes an octet, because there is no room or no memory.
abbrev pub WhyRefused : Base → Progress → ℕ → DecodeError → Type 0
WhyRefused base progress c (IllegalChar other) =
    (other ≡ c) × (progress.pads ≡ 0) × (IsCharacter base c → ⊥) × NoneGoesOn base progress c
WhyRefused base progress c TrailingInput = (0 < progress.pads) × NoneGoesOn base progress c
WhyRefused base progress c ShortInput = ⊥
WhyRefused base progress c ShortBuf = MakesWhole base progress.pads (length progress.waiting) c

-- why a text is refused as a whole
abbrev pub NoneIs : Base → List ℕ → Type 0
NoneIs base text = (octets : List ℕ) → Decodes base text octets → ⊥

-- the text was taken up to a character, which is refused with this error
pub record StopsWith (base : Base) (text : List ℕ) (error : DecodeError) : Type 0 where
  pub front : List ℕ
  pub refused : ℕ
  pub behind : List ℕ
  pub written : text ≡ front ++ refused ∷ behind
  pub progress : Progress
  pub taken : HasRead base progress front
  pub why : WhyRefused base progress refused error

-- the first character that is refused decides the error, and if there is none, the end of the text
abbrev pub WhyNoText : Base → List ℕ → DecodeError → Type 0
WhyNoText base text (IllegalChar c) = StopsWith base text (IllegalChar c) × NoneIs base text
WhyNoText base text TrailingInput = StopsWith base text TrailingInput × NoneIs base text
WhyNoText base text ShortInput = (progress : Progress) × HasRead base progress text × NoneIs base text
WhyNoText base text ShortBuf = StopsWith base text ShortBuf
