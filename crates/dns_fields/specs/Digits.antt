-- A digit at the beginning of a text. Only contracts inside the crate name it.
use Rattle.std.specs.Prelude.{◌≡◌, ◌+◌, ◌<◌, ℕ, List, ◌∷◌}

-- the text begins with this digit, and the rest is after it
abbrev pub BeginsWithDigit : List ℕ → ℕ → List ℕ → Type 0
BeginsWithDigit text n rest = (n < 10) × (text ≡ (48 + n) ∷ rest)
