use Rattle.std.proofs.Common.{refl}
use Rattle.std.proofs.lemmas.Result.{err_from_is_err_and}
use Rattle.dns_service_parameters.proofs.ServiceScans.{no_value, parameter_read}
use Rattle.dns_service_parameters.proofs.scan.scan_parameter.Goals as goal

pub returns-in_err-value-clause-err : goal.returns-in_err-value-clause-err
returns-in_err-value-clause-err g c =
    let p = err_from_is_err_and c.from_residual-in_err-value.result c.from_residual-in_err-value.ensures.1 in
    rw (p.1, p.2) (λ short. no_value c.in_ok-word.ensures.ok (c.in_err-value.ensures.err short))

pub returns-clause-ok : goal.returns-clause-ok
returns-clause-ok g c =
    parameter_read (record { key = c.in_ok-word.word.key; value = c.in_ok-value.value }) c.in_ok-word.ensures.ok c.in_ok-value.ensures.ok refl
