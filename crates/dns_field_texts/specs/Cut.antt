-- Texts that are cut at an octet.
use Rattle.std.specs.Prelude.{◌≢◌, ℕ, List}
use Rattle.std.specs.List.{AllByRecursion}

-- the octet is none of the text's
abbrev pub IsWithout : ℕ → List ℕ → Type 0
IsWithout octet text = AllByRecursion (λ other. other ≢ octet) text
