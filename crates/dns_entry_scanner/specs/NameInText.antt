-- Which name a token of a zone file spells (RFC 1035 5.1).
use Rattle.std.specs.Prelude.{◌≢◌, ℕ, List, [], ◌∷◌, ◌++◌, Option, Some}
use Rattle.dns_label.specs.Name.{IsName}
use Rattle.dns_label.specs.NameText.{IsAbsoluteText, IsRelativeText}

-- With an origin, if one is known: `@` is the origin; a name with a dot at its end is itself; any other is followed by
-- the origin.
pub data SpellsUnder : Option (List (List ℕ)) → List ℕ → List (List ℕ) → Type 0 where
  at : {origin : List (List ℕ)} → SpellsUnder (Some origin) (64 ∷ []) origin
  absolute : {origin : Option (List (List ℕ))} {text : List ℕ} {name : List (List ℕ)} → IsAbsoluteText text name
      → SpellsUnder origin text name
  relative : {origin : List (List ℕ)} {text : List ℕ} {labels : List (List ℕ)} → text ≢ 64 ∷ [] → IsRelativeText text labels
      → IsName (labels ++ origin) → SpellsUnder (Some origin) text (labels ++ origin)
