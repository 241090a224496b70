-- An error that `?` returns.
use Rattle.std.proofs.Common.{◌≡◌, Ok, Err, sym, subst}
use Rattle.std.specs.Prelude.{IfErr, IsErrAnd, Result}

pub handed_on : {T E : Type 0} (result : Result T E) (error : E) (Why : E → Type 0) → IsErrAnd result (λ e. e ≡ error) → Why error → IfErr result Why
handed_on (Ok value) error Why is why = tt
handed_on (Err other) error Why is why = subst Why (sym is) why
