use Rattle.std.proofs.Common.{refl}
use Rattle.std.proofs.lemmas.Result.{err_from_is_err_and}
use Rattle.zone.proofs.ReadRecords.{check_fault}
use Rattle.zone.proofs.read.check_record.Goals as goal

pub returns-in_err-check_data-clause-err : goal.returns-in_err-check_data-clause-err
returns-in_err-check_data-clause-err c =
    let p = err_from_is_err_and c.from_residual.result c.from_residual.ensures.1 in
    rw (p.1, p.2) (c.in_err-check_data.ensures.err c.args.apex)

pub returns-in_err-check_place-clause-err : goal.returns-in_err-check_place-clause-err
returns-in_err-check_place-clause-err c =
    let p = err_from_is_err_and c.from_residual-in_err-check_place.result c.from_residual-in_err-check_place.ensures.1 in
    rw (p.1, p.2) (check_fault c.args.unknown c.args.number c.args.apex c.args.record.now c.in_err-check_place.field-0.0 c.in_err-check_place.ensures.err)

pub returns-clause-ok : goal.returns-clause-ok
returns-clause-ok c = (
  record { data_is = c.in_ok-check_data.ensures.ok; spellable = c.if-not-is_spellable.ensures.0 refl },
  c.in_ok-check_place.ensures.ok,
)
