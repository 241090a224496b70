use Rattle.std.proofs.Common.{List, ℕ, sym, subst}
use Rattle.std.proofs.lemmas.Result.{err_from_is_err_and}
use Rattle.dns_wire.specs.Draft.{IsReadable}
use Rattle.dns_flat.proofs.RelativeRefusals.{either_readable}
use Rattle.dns_flat.proofs.relative.RelativeName.from_str.Goals as goal

pub returns-in_err-read_text-clause-err : goal.returns-in_err-read_text-clause-err
returns-in_err-read_text-clause-err g c =
    let p = err_from_is_err_and c.from_residual.result c.from_residual.ensures.1 in
    let P : List ℕ → Type 0 = λ t. IsReadable t in
    rw (p.1, p.2) (λ spells. c.in_err-read_text.ensures.err (subst P (sym c.as_bytes.ensures.value) (either_readable c.args.text.now spells)))
