-- What is read from a source and written to a sink, if they know their octets.
use Rattle.std.specs.Prelude.{◌≡◌, ℕ, Bool, true, List, ◌++◌, Option, Some, None, Result, MatchResult}
use Rattle.std.specs.Prelude.{⊤}
use Rattle.std.specs.Io.KnownBytes.{Appends}

-- a call that succeeds leaves the failure mark as it was, and a call that fails sets it
abbrev pub MarksFailure : {T E : Type 0} → Bool → Bool → Result T E → Type 0
MarksFailure old new r = MatchResult r (λ _. new ≡ old) (λ _. new ≡ true)

-- if the octets that were left are known, they are these
abbrev pub WereLeft : Option (List ℕ) → List ℕ → Type 0
WereLeft None octets = ⊤
WereLeft (Some left) octets = octets ≡ left

-- a front of the octets was appended, and nothing else
abbrev pub AppendsBeginning : Option (List ℕ) → Option (List ℕ) → List ℕ → Type 0
AppendsBeginning old new octets =
    (front : List ℕ) × (rest : List ℕ) × (octets ≡ front ++ rest) × Appends old new front
