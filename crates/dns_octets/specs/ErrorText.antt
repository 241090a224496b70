-- The text of an error.
use Rattle.std.specs.Prelude.{◌≡◌, ◌<◌, ◌≤◌, ℕ, List, take}
use Rattle.std.specs.Str.{IsCharBoundary}
use Rattle.dns_octets.specs.declared.error.FormError.{FormError}

-- what is kept of a text: the whole characters in its first 62 octets
pub record IsKept (text kept : List ℕ) : Type 0 where
  pub place : ℕ
  pub few : place ≤ 62
  pub boundary : IsCharBoundary text place
  pub most : (other : ℕ) → place < other → other ≤ 62 → IsCharBoundary text other → ⊥
  pub is : kept ≡ take place text

-- the text of a form error
abbrev pub text_of : FormError → List ℕ
text_of form = take form.len form.octets
