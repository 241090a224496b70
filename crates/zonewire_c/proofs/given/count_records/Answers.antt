use Rattle.std.proofs.Common.{rules, ◌≡◌, []}
use Rattle.std.proofs.lemmas.Result.{err_from_is_err_and}
use Rattle.zonewire_c.proofs.Faults.{origin-fault}
use Rattle.zonewire_c.proofs.given.count_records.Goals as goal

pub returns-in_err-name-clause-err : goal.returns-in_err-name-clause-err
returns-in_err-name-clause-err c =
    let p = err_from_is_err_and c.from_residual-in_err-name.result c.from_residual-in_err-name.ensures.1 in
    let given : c.args.origin.now ≡ [] → ⊥ = λ none. search rules in
    rw (p.1, p.2) (origin-fault _ _ _ c.in_err-name.field-0.0 given c.in_err-name.ensures.err)
