use Rattle.std.proofs.Common.{◌∷◌, subst}
use Rattle.std.proofs.lemmas.Result.{err_from_is_err_and}
use Rattle.dns_name.proofs.Flat.{always_on_err}
use Rattle.dns_fields.specs.Fields.{Kind}
use Rattle.dns_fields.specs.Scanned.{NoRowScans}
use Rattle.dns_fields.proofs.ScanParts.{left_of_row, row_scanned, no_first, no_others}
use Rattle.dns_fields.proofs.scan.Tuple2ScanRow.scan_fields.Goals as goal

pub returns-in_err-first-clause-err : goal.returns-in_err-first-clause-err
returns-in_err-first-clause-err g c =
    let p = err_from_is_err_and c.from_residual.result c.from_residual.ensures.1 in
    rw (p.1, p.2) (λ short. no_first _ _ _ _ (c.in_err-first.ensures.err short))

pub returns-in_err-others-clause-err : goal.returns-in_err-others-clause-err
returns-in_err-others-clause-err g c =
    let p = err_from_is_err_and c.from_residual-in_err-others.result c.from_residual-in_err-others.ensures.1 in
    rw (p.1, p.2)
    (λ short.
    subst (λ (k : Kind). NoRowScans (g.S.Scanner.names c.args.scanner.now) (k ∷ g.B.HasFields.kinds) (g.S.Scanner.tokens c.args.scanner.now))
    (g.met.A.HasField.of_kind c.in_ok-first.first)
    (no_others _ _ c.scan_field.ensures.names _ _ _ _ c.in_ok-first.ensures.ok (c.in_err-others.ensures.err short)))

pub returns-in_err-others-clause-left : goal.returns-in_err-others-clause-left
returns-in_err-others-clause-left g c =
    always_on_err c.from_residual-in_err-others.result
    (left_of_row _ _ _ _ _ c.in_ok-first.ensures.ok c.in_err-others.ensures.left)

pub returns-clause-ok : goal.returns-clause-ok
returns-clause-ok g c =
    row_scanned _ _ c.scan_field.ensures.names _ _ _ _ _ c.in_ok-first.ensures.ok c.in_ok-others.ensures.ok
