-- Texts that are read as names, and why a text was refused.
use Rattle.std.specs.Prelude.{ℕ, List, Option}
use Rattle.std.specs.List.{AllByRecursion, flat_map}
use Rattle.std.specs.Iterator.{Drains}
use Rattle.dns_label.specs.declared.symbol.Symbol.{Symbol}
use Rattle.dns_label.specs.Symbol.{IsSymbol, spelled}
use Rattle.dns_label.specs.Name.{IsName}
use Rattle.dns_label.specs.NameText.{IsNameText, IsRelativeText}
use Rattle.dns_label.specs.Taken.{RulesOut}
use Rattle.dns_wire.specs.declared.text.FromStrError.{FromStrError}
use Rattle.dns_wire.specs.declared.text.FromStrError.TheVariants.{Presentation, ShortBuf}

-- symbols spell the name that their text spells
pub record SpellName (symbols : List Symbol) (name : List (List ℕ)) : Type 0 where
  pub each : AllByRecursion IsSymbol symbols
  pub text : IsNameText (flat_map spelled symbols) name

-- The text spells a name, and leaves its last dot out.
abbrev pub LacksLastDot : List ℕ → Type 0
LacksLastDot text = (name : List (List ℕ)) × IsRelativeText text name × IsName name

-- The text spells no name; or it spells one, and there was no memory for it.
abbrev pub IsRefused : {A : Type 0} → (List A → List (List ℕ) → Type 0) → List A → FromStrError → Type 0
IsRefused Spells text (Presentation error) = (name : List (List ℕ)) → Spells text name → ⊥
IsRefused Spells text ShortBuf = (name : List (List ℕ)) × Spells text name

-- The same of what an iterator gives: what was taken off it, with whatever may follow, spells no name; or all of it was
-- taken and spells one, and there was no memory for it.
abbrev pub IsRefusedBy : {S A : Type 0} → (S → Option A → S → Type 0) → S → (List A → List (List ℕ) → Type 0) → FromStrError → Type 0
IsRefusedBy steps start Spells (Presentation error) = RulesOut steps start (λ items. (name : List (List ℕ)) × Spells items name)
IsRefusedBy {A = A} steps start Spells ShortBuf = (items : List A) × Drains steps start items × ((name : List (List ℕ)) × Spells items name)

-- the text is at fault, and memory is not
abbrev pub IsFault : FromStrError → Type 0
IsFault (Presentation error) = Unit {0}
IsFault ShortBuf = ⊥
