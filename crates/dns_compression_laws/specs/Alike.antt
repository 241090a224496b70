-- What a reader returns of written parts: the same parts, up to the case of names if the spelling folds.
use Rattle.std.specs.Prelude.{◌≡◌, ◌<◌, ◌^◌, ℕ, List, [], ◌∷◌, map, ⊤}
use Rattle.dns_label.specs.Name.{IsName}
use Rattle.dns_name.specs.Spelling.{Spelling, folded}
use Rattle.dns_name.specs.Page.{Page, Parts, with_octets, with_name, write}
use Rattle.dns_name.specs.Page.Parts.{End, Octets, Named, Counted}
use Rattle.dns_name.specs.RecordData.{counted_length}
use Rattle.dns_name.specs.SpelledParts.{SpellsParts}

-- the same parts, names as the spelling compares them
pub data AreAlike (s : Spelling) : Parts → Parts → Type 0 where
  end : AreAlike s End End
  octets : {parts others : Parts} (text : List ℕ) → AreAlike s parts others → AreAlike s (Octets text parts) (Octets text others)
  named : {name other : List (List ℕ)} {parts others : Parts} → map (folded s) name ≡ map (folded s) other → AreAlike s parts others
      → AreAlike s (Named name parts) (Named other others)
  counted : {inner inside parts others : Parts} → AreAlike s inner inside → AreAlike s parts others
      → AreAlike s (Counted inner parts) (Counted inside others)

-- each name among the parts is a name
abbrev pub HaveNames : Parts → Type 0
HaveNames End = ⊤
HaveNames (Octets text parts) = HaveNames parts
HaveNames (Named name parts) = IsName name × HaveNames parts
HaveNames (Counted inner parts) = HaveNames inner × HaveNames parts

-- each written length fits its two octets
abbrev pub LengthsFit : Spelling → Page → Parts → Type 0
LengthsFit s page End = ⊤
LengthsFit s page (Octets text parts) = LengthsFit s (with_octets page text) parts
LengthsFit s page (Named name parts) = LengthsFit s (with_name s page name) parts
LengthsFit s page (Counted inner parts) =
    (counted_length s page inner < 2 ^ 16) × LengthsFit s (with_octets page (0 ∷ 0 ∷ [])) inner × LengthsFit s (write s page (Counted inner End)) parts

-- The message spells the parts from the place on, up to case if the spelling folds; `next` is the place after them.
pub record SpellsAlike (s : Spelling) (message : List ℕ) (place : ℕ) (parts : Parts) (next : ℕ) : Type 0 where
  pub read : Parts
  pub alike : AreAlike s parts read
  pub spelled : SpellsParts message place read next
