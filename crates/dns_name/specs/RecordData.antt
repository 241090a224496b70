-- What record data is written as (RFC 1035 3.2.1), and how long it is.
use Rattle.std.specs.Prelude.{◌≡◌, ◌<◌, ◌+◌, ◌-◌, ◌⊎◌, ◌||◌, ℕ, Bool, true, false, List, [], ◌∷◌, length}
use Rattle.dns_octets.specs.Builder.{Known}
use Rattle.dns_octets.specs.Parser.{octets_of, place_of}
use Rattle.dns_octets.specs.declared.parser.Parser.{Parser}
use Rattle.dns_name.specs.Spelling.{Spelling, plain, compresses}
use Rattle.dns_name.specs.Page.{Page, Parts, with_octets, write}
use Rattle.dns_name.specs.Page.Parts.{End, Octets, Named, Counted}

abbrev pub page_of : List ℕ → Known → Page
page_of octets known = record { octets = octets; known = known }

-- the parts take this number of octets on every page; or, without pointers, on every one where names are written in
-- full
pub record IsComposedLength (compress : Bool) (parts : Parts) (len : ℕ) : Type 0 where
  pub composed : (s : Spelling) (page : Page) → (compress ≡ false → (compresses s ≡ false) × (page.known ≡ []))
      → length (write s page parts).octets ≡ length page.octets + len

-- one of the parts is a name that may be written with a pointer
abbrev pub has_name : Parts → Bool
has_name End = false
has_name (Octets more parts) = has_name parts
has_name (Named name parts) = true
has_name (Counted inner parts) = has_name inner || has_name parts

-- The length is not known before the parts are written: one of them may be a pointer, or they are more than 65,535
-- octets with every name in full.
abbrev pub IsUntold : Bool → Parts → Type 0
IsUntold compress parts =
    ((compress ≡ true) × (has_name parts ≡ true)) ⊎ (65535 < length (write plain (page_of [] []) parts).octets)

-- how many octets the parts take after their length
abbrev pub counted_length : Spelling → Page → Parts → ℕ
counted_length s page parts = length (write s (with_octets page (0 ∷ 0 ∷ [])) parts).octets - (length page.octets + 2)

-- the parser is after the last of the same octets
pub record IsAtEnd (old new : Parser) : Type 0 where
  pub octets : octets_of new ≡ octets_of old
  pub place : place_of new ≡ length (octets_of old)
