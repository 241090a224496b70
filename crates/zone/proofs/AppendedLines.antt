-- A line that is put together before it is appended.
use Rattle.std.proofs.Common.{◌≡◌, ◌++◌, ◌∷◌, [], ℕ, List, Some, None, IfSome, OnOk, Ok, Err, Option, Result, ◌∙◌, ap}
use Rattle.std.specs.Prelude.{if◌then◌else◌}
use Rattle.std.specs.Result.{is_ok}
use Rattle.std.specs.Fmt.{WritesText, with_newline}
use Rattle.std.proofs.Output.{contents_after_writes}

-- what was written to a writer that had nothing, and whose calls append
pub line_written : {W : Type 0} (took : W → List ℕ → W → Type 0) (contents : W → List ℕ)
    → ((w : W) (text : List ℕ) (v : W) → took w text v → contents v ≡ contents w ++ text)
    → (w v : W) (shown : Option (List ℕ)) → contents w ≡ [] → WritesText took w (with_newline shown) v
    → IfSome shown (λ line. contents v ≡ line ++ 10 ∷ [])
line_written took contents appends w v None empty writes = tt
line_written took contents appends w v (Some line) empty writes =
    contents_after_writes took contents appends w (line ++ 10 ∷ []) v writes ∙ ap (λ l. l ++ (line ++ 10 ∷ [])) empty

-- the line behind the text, if it was appended
pub line_added : {E : Type 0} (result : Result (Unit {0}) E) (shown : Option (List ℕ)) (old new line : List ℕ)
    → new ≡ (if is_ok result then old ++ line else old) → IfSome shown (λ text. line ≡ text ++ 10 ∷ [])
    → OnOk result (IfSome shown (λ text. new ≡ old ++ (text ++ 10 ∷ [])))
line_added (Ok done) None old new line appended is = tt
line_added (Ok done) (Some text) old new line appended is = appended ∙ ap (λ l. old ++ l) is
line_added (Err error) shown old new line appended is = tt
