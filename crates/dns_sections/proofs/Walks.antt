-- Items that are skipped, one after another.
use Rattle.std.proofs.Common.{◌≡◌, ℕ, suc, List, ◌+◌, Ok, Err, MatchResult, arith, subst, sym}
use Rattle.std.specs.Result.{IsErrAnd}
use Rattle.std.specs.Prelude.{◌↔◌, Result, OnErr, IfErr}
use Rattle.dns_octets.specs.declared.error.ParseError.TheVariants.{ShortInput}
use Rattle.dns_octets.specs.declared.error.ParseError.{ParseError}
use Rattle.dns_sections.specs.Cursor.{Passes, IsRefusal}
use Rattle.dns_sections.specs.Cursor.Passes.{none, more}

-- one more is skipped after them
pub passes-more : {Skips : List ℕ → ℕ → ℕ → Type 0} {message : List ℕ} {place count at behind : ℕ} → Passes Skips message place count at
    → Skips message at behind → Passes Skips message place (count + 1) behind
passes-more {Skips} {message} {place} {count} {at} {behind} passes skips =
    subst (λ n. Passes Skips message place n behind) {x = suc count} {y = count + 1} (omega arith) (suc-more passes skips)
  where
    suc-more : {first last : ℕ} {some : ℕ} → Passes Skips message first some last → Skips message last behind
        → Passes Skips message first (suc some) behind
    suc-more none next = more next none
    suc-more (more one others) next = more one (suc-more others next)

-- an error that is returned
pub refused : {A E : Type 0} (result : Result A E) (error : E) (OnOk : A → Type 0) (OnErr : E → Type 0) → IsErrAnd result (λ e. e ≡ error) → OnErr error
    → MatchResult result OnOk OnErr
refused (Ok value) error OnOk OnErr is holds = absurd is
refused (Err other) error OnOk OnErr is holds = subst OnErr (sym is) holds

-- why an item does not parse, by two clauses
pub refusal : {A : Type 0} (IsNone IsCut : Type 0) (result : Result A ParseError) → OnErr result IsNone → IfErr result (λ error. (error ≡ ShortInput) ↔ IsCut)
    → IfErr result (IsRefusal IsNone IsCut)
refusal IsNone IsCut (Ok value) nothing short = _
refusal IsNone IsCut (Err error) nothing short = record { none = nothing; short = short }
