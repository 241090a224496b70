-- One word of a list of words.
use Rattle.std.specs.Prelude.{ℕ, Bool, List, [], ◌∷◌, if◌then◌else◌}

-- a word if it is chosen, after a space if another one precedes it
abbrev pub word_text : Bool → Bool → List ℕ → List ℕ
word_text behind set word = if set then (if behind then 32 ∷ word else word) else []
