-- Which label a text spells (RFC 1035, section 5.1).
use Rattle.std.specs.Prelude.{◌≡◌, ℕ, true, false, List, [], ◌∷◌, ◌++◌, length, map, Option}
use Rattle.std.specs.List.{AllByRecursion, flat_map}
use Rattle.std.specs.Iterator.{Yields, Drains}
use Rattle.dns_label.specs.declared.symbol.Symbol.{Symbol}
use Rattle.dns_label.specs.declared.label.owned.text.LabelFromStrError.{LabelFromStrError}
use Rattle.dns_label.specs.declared.label.owned.text.LabelFromStrError.TheVariants.{BadSymbol, Dot, EmptyLabel, LongLabel}
use Rattle.dns_label.specs.Name.{IsLabel}
use Rattle.dns_label.specs.Symbol.{IsSymbol, octet, spelled}
use Rattle.dns_label.specs.NameText.{is_dot}
use Rattle.dns_label.specs.ReadSymbol.{GoesOnInSymbols}
use Rattle.dns_label.specs.Taken.{RulesOut}

-- a symbol of a label: any but a dot that is not escaped
abbrev pub IsOfLabel : Symbol → Type 0
IsOfLabel symbol = IsSymbol symbol × (is_dot symbol ≡ false)

-- The text consists of such symbols, one for each octet of the label.
pub record IsLabelText (text label : List ℕ) : Type 0 where
  pub symbols : List Symbol
  pub each : AllByRecursion IsOfLabel symbols
  pub written : text ≡ flat_map spelled symbols
  pub octets : label ≡ map octet symbols
  pub is_label : IsLabel label

-- After symbols of a label, what follows can't go on in symbols, a dot follows, or there are 64 symbols; or there are
-- no characters at all.
abbrev pub IsLabelFault : {S : Type 0} → (S → Option ℕ → S → Type 0) → S → LabelFromStrError → Type 0
IsLabelFault {S} steps start BadSymbol =
    (symbols : List Symbol) × (here : S) × AllByRecursion IsOfLabel symbols × Yields steps start (flat_map spelled symbols) here
    × RulesOut steps here GoesOnInSymbols
IsLabelFault {S} steps start Dot =
    (symbols : List Symbol) × (here : S) × AllByRecursion IsOfLabel symbols
    × Yields steps start (flat_map spelled symbols ++ 46 ∷ []) here
IsLabelFault steps start EmptyLabel = Drains steps start []
IsLabelFault {S} steps start LongLabel =
    (symbols : List Symbol) × (here : S) × AllByRecursion IsOfLabel symbols × Yields steps start (flat_map spelled symbols) here
    × (length symbols ≡ 64)

-- a symbol can't follow these octets: it is a dot, or one too many
abbrev pub IsOver : Symbol → List ℕ → LabelFromStrError → Type 0
IsOver symbol octets Dot = is_dot symbol ≡ true
IsOver symbol octets LongLabel = (is_dot symbol ≡ false) × (length octets ≡ 63)
IsOver symbol octets BadSymbol = ⊥
IsOver symbol octets EmptyLabel = ⊥
