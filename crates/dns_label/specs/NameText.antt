-- Which name a text spells (RFC 1035, section 5.1).
use Rattle.std.specs.Prelude.{◌≡◌, ◌<◌, ◌==◌, ℕ, Bool, true, false, List, [], ◌∷◌, ◌++◌, length, if◌then◌else◌}
use Rattle.std.specs.List.{AllByRecursion, flat_map}
use Rattle.dns_label.specs.declared.symbol.Symbol.{Symbol}
use Rattle.dns_label.specs.declared.symbol.Symbol.TheVariants.{Char}
use Rattle.dns_label.specs.Name.{IsName, IsLabel}
use Rattle.dns_label.specs.Symbol.{IsSymbol, octet, spelled}

-- a dot that is not escaped separates labels
abbrev pub is_dot : Symbol → Bool
is_dot (Char c) = c == 46
is_dot _ = false

-- an octet added to the front of the first part
abbrev pub onto : ℕ → List (List ℕ) → List (List ℕ)
onto c [] = (c ∷ []) ∷ []
onto c (part ∷ parts) = (c ∷ part) ∷ parts

-- the parts between the dots, each as the octets of its symbols
abbrev pub parts_of : List Symbol → List (List ℕ)
parts_of [] = [] ∷ []
parts_of (symbol ∷ symbols) =
    if is_dot symbol then [] ∷ parts_of symbols else onto (octet symbol) (parts_of symbols)

-- the text consists of symbols, and has these parts between its dots
pub record HasParts (text : List ℕ) (parts : List (List ℕ)) : Type 0 where
  pub symbols : List Symbol
  pub each : AllByRecursion IsSymbol symbols
  pub written : text ≡ flat_map spelled symbols
  pub between : parts_of symbols ≡ parts

-- A text with its last dot: the root is the dot alone, any other name has a dot after each label.
pub data IsAbsoluteText : List ℕ → List (List ℕ) → Type 0 where
  root : {text : List ℕ} → text ≡ 46 ∷ [] → IsAbsoluteText text []
  labels : {text : List ℕ} {name : List (List ℕ)} → 0 < length name → HasParts text (name ++ [] ∷ []) → IsName name
      → IsAbsoluteText text name

-- A text without its last dot: at least one label, and a dot between two.
pub record IsRelativeText (text : List ℕ) (labels : List (List ℕ)) : Type 0 where
  pub parts : HasParts text labels
  pub each : AllByRecursion IsLabel labels

-- The text spells the name if no origin is known, so that the last dot may be left out.
pub data IsNameText : List ℕ → List (List ℕ) → Type 0 where
  absolute : {text : List ℕ} {name : List (List ℕ)} → IsAbsoluteText text name → IsNameText text name
  relative : {text : List ℕ} {name : List (List ℕ)} → IsRelativeText text name → IsName name → IsNameText text name

-- The text spells the relative name, which has no last dot. The empty text is the name without labels.
pub data IsRelativeNameText : List ℕ → List (List ℕ) → Type 0 where
  empty : {text : List ℕ} → text ≡ [] → IsRelativeNameText text []
  labels : {text : List ℕ} {name : List (List ℕ)} → IsRelativeText text name → IsName name → IsRelativeNameText text name

-- The text spells the name: with its last dot if the name is absolute, and without it if the name is relative.
abbrev pub IsEitherText : Bool → List ℕ → List (List ℕ) → Type 0
IsEitherText true text name = IsAbsoluteText text name
IsEitherText false text name = IsRelativeNameText text name
