-- What `clap` reads for an option that is a number.
use Rattle.std.proofs.Common.{◌≡◌, ◌∙◌, ℕ, List, Option, Some, None, refl, ap, subst, arith}
use Rattle.std.specs.Option.{option_map_or, unwrap_or}
use Rattle.std.specs.Prelude.{IfSome, Ok, Result, pos}
use Rattle.std.specs.Str.Parse.{ParsesUnsigned}
use Rattle.clap.specs.Lexer.{without_minus}
use Rattle.clap.specs.Values.{IsSignedIn}
use Rattle.clap.specs.Words.{ReadsOne}
use Rattle.clap.proofs.CallerReads.{signed_reads}
use Rattle.zonewire_words.specs.Words.{number}

-- `get_one` gives the number of a value that was accepted as one
pub number_read : {E : Type 0} (G : List ℕ → Result ℕ E → Type 0) → ((u : List ℕ) (x : Result ℕ E) → G u x → ParsesUnsigned 16 10 u x)
    → (o : Option (List ℕ)) (r : Option ℕ) (default : ℕ) → (o ≡ None → r ≡ None) → ((t : List ℕ) → o ≡ Some t → ReadsOne G t r)
    → IfSome o (λ text. (value : List ℕ) × (text ≡ without_minus value) × IsSignedIn (pos 0) (pos 65535) value)
    → unwrap_or r default ≡ option_map_or number o default
number_read G only None r default none some given = ap (λ x. unwrap_or x default) (none refl)
number_read {E} G only (Some t) r default none some (w, is, passed) =
    let read : ReadsOne G t r = some t refl in
    let (n, got, low, high) = signed_reads E G 16 0 65535 w r (subst (λ u. ReadsOne G u r) is read) only (omega arith) passed in
    let parsed : ParsesUnsigned {E = E} 16 10 t (Ok n) = only t (Ok n) (subst (ReadsOne G t) got read) in
    ap (λ x. unwrap_or x default) got ∙ parsed.1
