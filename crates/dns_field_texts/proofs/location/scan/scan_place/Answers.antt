use Rattle.std.proofs.Common.{◌∙◌, arith}
use Rattle.std.specs.Prelude.{codes}
use Rattle.std.proofs.lemmas.Grind.{common_steps}
use Rattle.std.proofs.lemmas.Result.{err_from_is_err_and}
use Rattle.dns_field_texts.proofs.LocationRead.{past_altitude, past_horizontal, past_latitude, past_longitude, past_size, past_vertical, read_from, scans_location_is, scans_parts, usual_horizontal, usual_size, usual_vertical}
use Rattle.dns_field_texts.proofs.LocationScans.{none_there}
use Rattle.dns_field_texts.proofs.location.scan.scan_place.Goals as goal

pub returns-in_err-latitude-clause-err : goal.returns-in_err-latitude-clause-err
returns-in_err-latitude-clause-err g c =
    let p = err_from_is_err_and c.from_residual.result c.from_residual.ensures.1 in
    rw (p.1, p.2) (λ short location scans. let left = read_from scans in c.in_err-latitude.ensures.err short left.0 location.latitude left.1)

pub returns-in_err-longitude-clause-err : goal.returns-in_err-longitude-clause-err
returns-in_err-longitude-clause-err g c =
    let p = err_from_is_err_and c.from_residual-in_err-longitude.result c.from_residual-in_err-longitude.ensures.1 in
    rw (p.1, p.2)
    (λ short location scans. let left = past_latitude location c.in_ok-latitude.ensures.ok scans in c.in_err-longitude.ensures.err short left.0 location.longitude left.1)

pub returns-in_err-altitude-clause-err : goal.returns-in_err-altitude-clause-err
returns-in_err-altitude-clause-err g c =
    let p = err_from_is_err_and c.from_residual-in_err-altitude.result c.from_residual-in_err-altitude.ensures.1 in
    rw (p.1, p.2)
    (λ short location scans.
    let left = past_longitude location c.in_ok-longitude.ensures.ok (past_latitude location c.in_ok-latitude.ensures.ok scans) in
    c.in_err-altitude.ensures.err short location.altitude left.0 left.1)

pub returns-in_err-size-clause-err : goal.returns-in_err-size-clause-err
returns-in_err-size-clause-err g c =
    let p = err_from_is_err_and c.from_residual-in_err-size.result c.from_residual-in_err-size.ensures.1 in
    rw (p.1, p.2)
    (λ short location scans.
    let left = past_altitude location c.in_ok-altitude.ensures.ok (past_longitude location c.in_ok-longitude.ensures.ok (past_latitude location c.in_ok-latitude.ensures.ok scans)) in
    c.in_err-size.ensures.err short (codes "1m") left.0 location.size left.1)

pub returns-in_err-horizontal-clause-err : goal.returns-in_err-horizontal-clause-err
returns-in_err-horizontal-clause-err g c =
    let p = err_from_is_err_and c.from_residual-in_err-horizontal.result c.from_residual-in_err-horizontal.ensures.1 in
    rw (p.1, p.2)
    (λ short location scans.
    let left = past_size location (c.in_ok-size.ensures.ok (codes "1m") usual_size)
    (past_altitude location c.in_ok-altitude.ensures.ok (past_longitude location c.in_ok-longitude.ensures.ok (past_latitude location c.in_ok-latitude.ensures.ok scans))) in
    c.in_err-horizontal.ensures.err short (codes "10000m") left.0 location.horizontal left.1)

pub returns-in_err-vertical-clause-err : goal.returns-in_err-vertical-clause-err
returns-in_err-vertical-clause-err g c =
    let p = err_from_is_err_and c.from_residual-in_err-vertical.result c.from_residual-in_err-vertical.ensures.1 in
    rw (p.1, p.2)
    (λ short location scans.
    let left = past_horizontal location (c.in_ok-horizontal.ensures.ok (codes "10000m") usual_horizontal) (past_size location (c.in_ok-size.ensures.ok (codes "1m") usual_size)
    (past_altitude location c.in_ok-altitude.ensures.ok (past_longitude location c.in_ok-longitude.ensures.ok (past_latitude location c.in_ok-latitude.ensures.ok scans)))) in
    c.in_err-vertical.ensures.err short (codes "10m") left.0 location.vertical left.1)

pub returns-then-continues-clause-err : goal.returns-then-continues-clause-err
returns-then-continues-clause-err g c = λ short location scans.
    let none = past_vertical location (c.in_ok-vertical.ensures.ok (codes "10m") usual_vertical) (past_horizontal location (c.in_ok-horizontal.ensures.ok (codes "10000m") usual_horizontal)
    (past_size location (c.in_ok-size.ensures.ok (codes "1m") usual_size)
    (past_altitude location c.in_ok-altitude.ensures.ok (past_longitude location c.in_ok-longitude.ensures.ok (past_latitude location c.in_ok-latitude.ensures.ok scans))))) in
    c.continues.ensures.some.0 c.if-continues.true none

pub returns-clause-ok : goal.returns-clause-ok
returns-clause-ok g c =
    let none = none_there (g.S.Scanner.tokens c.scan_size-3.new.scanner) (λ some. let yes = c.continues.ensures.some.1 some in grind (arith, common_steps)) in (
      scans_parts _ c.in_ok-latitude.ensures.ok c.in_ok-longitude.ensures.ok c.in_ok-altitude.ensures.ok (c.in_ok-size.ensures.ok (codes "1m") usual_size)
          (c.in_ok-horizontal.ensures.ok (codes "10000m") usual_horizontal) (c.in_ok-vertical.ensures.ok (codes "10m") usual_vertical) none,
      c.continues.ensures.stays ∙ none,
    )

pub returns-clause-is : goal.returns-clause-is
returns-clause-is g c =
    let none = none_there (g.S.Scanner.tokens c.scan_size-3.new.scanner) (λ some. let yes = c.continues.ensures.some.1 some in grind (arith, common_steps)) in
    scans_location_is (scans_parts _ c.in_ok-latitude.ensures.ok c.in_ok-longitude.ensures.ok c.in_ok-altitude.ensures.ok (c.in_ok-size.ensures.ok (codes "1m") usual_size)
    (c.in_ok-horizontal.ensures.ok (codes "10000m") usual_horizontal) (c.in_ok-vertical.ensures.ok (codes "10m") usual_vertical) none)
