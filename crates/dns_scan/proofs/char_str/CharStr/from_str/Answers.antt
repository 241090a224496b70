use Rattle.std.proofs.Common.{ℕ, List, subst}
use Rattle.std.proofs.lemmas.Result.{err_from_is_err_and}
use Rattle.dns_scan.specs.Refused.{IsRefused}
use Rattle.dns_scan.specs.declared.char_str.text.FromStrError.TheVariants.{Presentation}
use Rattle.dns_scan.proofs.char_str.CharStr.from_str.Goals as goal

pub returns-in_err-taken-clause-err : goal.returns-in_err-taken-clause-err
returns-in_err-taken-clause-err g c =
    let p = err_from_is_err_and c.from_residual.result c.from_residual.ensures.1 in
    let P : List ℕ → Type 0 = λ t. IsRefused t (Presentation c.in_err-taken.field-0.0) in
    rw (p.1, p.2) (subst P c.as_bytes.ensures.value c.in_err-taken.ensures.err)
