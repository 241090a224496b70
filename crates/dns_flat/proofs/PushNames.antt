-- What the results of calls that append names say.
use Rattle.std.proofs.Common.{◌≡◌, ℕ, ◌<◌, ◌≤◌, sym, ◌∙◌, arith}
use Rattle.std.specs.Prelude.{Result, Ok, Err}
use Rattle.dns_flat.specs.declared.builder.error.PushNameError.{PushNameError}
use Rattle.dns_flat.specs.declared.builder.error.PushNameError.TheVariants.{LongName, ShortBuf}

pub name_ok_no_error : {T : Type 0} (result : Result T PushNameError) (value : T) → result ≡ Ok value → result ≡ Err LongName → ⊥
name_ok_no_error result value is are = let no : Ok value ≡ Err LongName = sym is ∙ are in cc

pub short_is_not_long : {T : Type 0} (result : Result T PushNameError) → result ≡ Err ShortBuf → result ≡ Err LongName → ⊥
short_is_not_long {T} result is are = none (sym is ∙ are)
  where
    none : (let P : Result T PushNameError = Err ShortBuf in P) ≡ Err LongName → ⊥
    none same = cc

pub no_long : {T : Type 0} (result : Result T PushNameError) (most size : ℕ) → (result ≡ Err LongName → ⊥) → size ≤ most
    → (result ≡ Err LongName → most < size) × (most < size → result ≡ Err LongName)
no_long result most size none few = (λ is. absurd (none is), λ over. absurd (omega arith))
