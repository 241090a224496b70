-- What the answers of calls that append to TXT data say.
use Rattle.std.proofs.Common.{◌≡◌, ℕ, ◌<◌, ◌≤◌, sym, ◌∙◌, arith}
use Rattle.std.specs.Prelude.{Result, Ok, Err}
use Rattle.dns_rr_data.specs.declared.txt.append_error.TxtAppendError.{TxtAppendError}
use Rattle.dns_rr_data.specs.declared.txt.append_error.TxtAppendError.TheVariants.{LongRecordData, ShortBuf}

pub at_most : (n : ℕ) → (65535 < n → ⊥) → n ≤ 65535
at_most n none = omega arith

pub ok_not_long : {T : Type 0} (result : Result T TxtAppendError) (value : T) → result ≡ Ok value → result ≡ Err LongRecordData → ⊥
ok_not_long result value is are = let no : Ok value ≡ Err LongRecordData = sym is ∙ are in cc

pub short_not_long : {T : Type 0} (result : Result T TxtAppendError) → result ≡ Err ShortBuf → result ≡ Err LongRecordData → ⊥
short_not_long {T} result is are = none (sym is ∙ are)
  where
    none : (let P : Result T TxtAppendError = Err ShortBuf in P) ≡ Err LongRecordData → ⊥
    none same = cc

pub no_long : {T : Type 0} (result : Result T TxtAppendError) (size : ℕ) → (result ≡ Err LongRecordData → ⊥) → size ≤ 65535
    → (result ≡ Err LongRecordData → 65535 < size) × (65535 < size → result ≡ Err LongRecordData)
no_long result size none few = (λ is. absurd (none is), λ over. absurd (omega arith))
