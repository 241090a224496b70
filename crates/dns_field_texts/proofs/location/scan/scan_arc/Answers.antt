use Rattle.std.proofs.Common.{ℕ, ◌*◌, List, subst}
use Rattle.std.proofs.lemmas.Result.{err_from_is_err_and}
use Rattle.dns_scan.specs.Token.{Token}
use Rattle.dns_field_texts.specs.LocationParts.{HasMinutes}
use Rattle.dns_field_texts.proofs.LocationScans.{given_none, if_err, no_arc, no_arc_more}
use Rattle.dns_field_texts.proofs.location.scan.scan_arc.Goals as goal

pub returns-in_err-angle-clause-err : goal.returns-in_err-angle-clause-err
returns-in_err-angle-clause-err g c =
    let p = err_from_is_err_and c.from_residual.result c.from_residual.ensures.1 in
    rw (p.1, p.2) (λ short left value has. c.in_err-angle.ensures.err short has.degree has.behind has.takes)

pub returns-in_err-value-clause-err : goal.returns-in_err-value-clause-err
returns-in_err-value-clause-err g c =
    let p = err_from_is_err_and c.from_residual-in_err-value.result c.from_residual-in_err-value.ensures.1 in
    rw (p.1, p.2) (λ short. let none = c.in_err-value.ensures.err short in no_arc c.in_ok-angle.ensures.ok none.0 none.1)

pub returns-in-None-clause-err : goal.returns-in-None-clause-err
returns-in-None-clause-err g c =
    let none = given_none c.in-None.is c.in_ok-value.ensures.none in
    if_err c.scan_minutes.result c.scan_minutes.ensures.err
    (λ error not short. no_arc_more c.in_ok-angle.ensures.ok none.1
    (subst (λ (l : List Token). (left : List Token) (value : ℕ) → HasMinutes c.args.axis (c.in_ok-angle.field-0 * 3600000) l left value → ⊥) none.0 (not short)))
