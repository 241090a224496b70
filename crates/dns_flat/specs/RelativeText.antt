-- Relative names as text (RFC 1035 5.1).
use Rattle.std.specs.Prelude.{◌⊎◌, ℕ, List, Option}
use Rattle.std.specs.Iterator.{Drains}
use Rattle.dns_label.specs.NameText.{IsAbsoluteText, IsRelativeNameText}
use Rattle.dns_label.specs.Taken.{RulesOut}
use Rattle.dns_wire.specs.declared.text.FromStrError.{FromStrError}
use Rattle.dns_wire.specs.declared.text.FromStrError.TheVariants.{Presentation, ShortBuf}
use Rattle.dns_flat.specs.declared.text.relative.RelativeFromStrError.{RelativeFromStrError}
use Rattle.dns_flat.specs.declared.text.relative.RelativeFromStrError.TheVariants.{FromStr, AbsoluteName}

abbrev pub SpellsRelative : List ℕ → Type 0
SpellsRelative text = (name : List (List ℕ)) × IsRelativeNameText text name

abbrev pub SpellsAbsolute : List ℕ → Type 0
SpellsAbsolute text = (name : List (List ℕ)) × IsAbsoluteText text name

abbrev pub SpellsEither : List ℕ → Type 0
SpellsEither text = SpellsRelative text ⊎ SpellsAbsolute text

-- it spells neither, or it spells a relative name and there is no room or no memory
abbrev pub IsNotMade : List ℕ → FromStrError → Type 0
IsNotMade text (Presentation error) = SpellsEither text → ⊥
IsNotMade text ShortBuf = SpellsRelative text

-- why no relative name was made of the text
abbrev pub IsNoRelative : List ℕ → RelativeFromStrError → Type 0
IsNoRelative text (FromStr error) = IsNotMade text error
IsNoRelative text AbsoluteName = SpellsAbsolute text

-- The same for the characters of an iterator: what was taken from it, with whatever may follow, spells neither; or all
-- of it was taken.
abbrev pub IsNotMadeBy : {C : Type 0} → (C → Option ℕ → C → Type 0) → C → FromStrError → Type 0
IsNotMadeBy steps start (Presentation error) = RulesOut steps start SpellsEither
IsNotMadeBy steps start ShortBuf = (text : List ℕ) × Drains steps start text × SpellsRelative text

abbrev pub IsNoRelativeBy : {C : Type 0} → (C → Option ℕ → C → Type 0) → C → RelativeFromStrError → Type 0
IsNoRelativeBy steps start (FromStr error) = IsNotMadeBy steps start error
IsNoRelativeBy steps start AbsoluteName = (text : List ℕ) × Drains steps start text × SpellsAbsolute text
