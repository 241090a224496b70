use Rattle.std.proofs.Common.{◌≡◌, ℕ, length, ap, arith, vec_len}
use Rattle.std.proofs.lemmas.Bool.Decides.{nat_tests}
use Rattle.std.proofs.lemmas.Result.{err_from_is_err_and}
use Rattle.dns_service_parameters.proofs.ServiceStrings.{string_read}
use Rattle.dns_service_parameters.proofs.values.append_string.Goals as goal
use Rattle.dns_service_parameters.proofs.values.append_string.Goals.{then-is_empty-via-then-is_empty, then-is_empty-via-else-is_empty+then-len-gt255}

pub returns-then-is_empty-clause-err : goal.returns-then-is_empty-clause-err
returns-then-is_empty-clause-err g c = λ short string others starts.
    let read = string_read c.loop-octet.string.items c.loop-octet.left.now c.loop-octet.invariant c.in_default.ensures.none starts in
    let size = ap (length {A = ℕ}) read.0 in
    let some = starts.some in
    let few = starts.short in
    elim c.then-is_empty.branch [
      | then-is_empty-via-then-is_empty w ↦
          let zero : vec_len c.loop-octet.string ≡ 0 = grind (arith, nat_tests) in
          omega (arith, zero, size, some, c.loop-octet.string.ok.0)
      | then-is_empty-via-else-is_empty+then-len-gt255 w ↦ let len = w.len.ensures in let long = w.if-len-gt255.true in
          omega (arith, len, long, size, few, c.loop-octet.string.ok.0)
    ]

pub returns-in_err-others-clause-err : goal.returns-in_err-others-clause-err
returns-in_err-others-clause-err g c =
    let p = err_from_is_err_and c.from_residual.result c.from_residual.ensures.1 in
    rw (p.1, p.2) (λ short string others starts.
    let read = string_read c.loop-octet.string.items c.loop-octet.left.now c.loop-octet.invariant c.in_default.ensures.none starts in
    c.in_err-others.ensures.err others read.1)
