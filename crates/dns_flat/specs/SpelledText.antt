-- Names that a text spells with its last dot or without it (RFC 1035 5.1).
use Rattle.std.specs.Prelude.{ℕ, true, false, List, Option}
use Rattle.std.specs.Iterator.{Drains}
use Rattle.dns_label.specs.NameText.{IsEitherText}
use Rattle.dns_label.specs.Taken.{RulesOut}
use Rattle.dns_flat.specs.RelativeText.{SpellsEither}
use Rattle.dns_wire.specs.declared.text.FromStrError.{FromStrError}
use Rattle.dns_wire.specs.declared.text.FromStrError.TheVariants.{Presentation, ShortBuf}
use Rattle.dns_flat.specs.declared.text.spelled.SpelledName.{SpelledName}
use Rattle.dns_flat.specs.declared.text.spelled.SpelledName.TheVariants.{Absolute, Relative}

-- the text spells the name, with its last dot if it is absolute and without it if it is relative
abbrev pub IsSpelledBy : {O : Type 0} → List ℕ → SpelledName O → Type 0
IsSpelledBy text (Absolute name) = IsEitherText true text name
IsSpelledBy text (Relative name) = IsEitherText false text name

-- The text spells no name, or it spells one and there is no room or no memory.
abbrev pub IsNotSpelled : List ℕ → FromStrError → Type 0
IsNotSpelled text (Presentation error) = SpellsEither text → ⊥
IsNotSpelled text ShortBuf = SpellsEither text

-- The same for the characters of an iterator: what was taken from it, with whatever may follow, spells no name; or all
-- of it was taken.
abbrev pub IsNotSpelledBy : {C : Type 0} → (C → Option ℕ → C → Type 0) → C → FromStrError → Type 0
IsNotSpelledBy steps start (Presentation error) = RulesOut steps start SpellsEither
IsNotSpelledBy steps start ShortBuf = (text : List ℕ) × Drains steps start text × SpellsEither text
