use Rattle.std.proofs.Common.{◌≡◌, sym, false}
use Rattle.dns_rdata.specs.ZoneData.{data_of}
use Rattle.dns_rdata.proofs.ScanAny.{is_false, same_back, ok_same, err_same, typed_err_same, left_behind_marker}
use Rattle.dns_rdata.proofs.zone_record_data.ZoneRecordData.scan.Goals as goal

-- the marker was first, and is taken
pub returns-in-Ok-true-clause-err : goal.returns-in-Ok-true-clause-err
returns-in-Ok-true-clause-err g c = err_same _ (λ error. g.S.Error.ScannerError.is_short error ≡ false) _ _ c.in-Ok-true.ensures.names
    _ _ _ (c.in-Ok-true.ensures.marked c.in-Ok-true.field-0-test) c.scan_octets.ensures.err

pub returns-in-Ok-true-clause-left : goal.returns-in-Ok-true-clause-left
returns-in-Ok-true-clause-left g c = left_behind_marker _ _ _ _ (c.in-Ok-true.ensures.marked c.in-Ok-true.field-0-test)
    c.scan_octets.ensures.left

-- nothing is taken
pub returns-in-Ok-false-clause-ok : goal.returns-in-Ok-false-clause-ok
returns-in-Ok-false-clause-ok g c = ok_same _ data_of _ _ (same_back _ _ c.in-Ok-false.ensures.names) _ _ _ _
    (c.in-Ok-false.ensures.other (is_false c.in-Ok-false.field-0-test)).0 c.scan_fields.ensures.ok

pub returns-in-Ok-false-clause-err : goal.returns-in-Ok-false-clause-err
returns-in-Ok-false-clause-err g c = typed_err_same _ (λ error. g.S.Error.ScannerError.is_short error ≡ false) _ _ c.in-Ok-false.ensures.names
    _ _ _ (sym (c.in-Ok-false.ensures.other (is_false c.in-Ok-false.field-0-test)).0)
    (c.in-Ok-false.ensures.other (is_false c.in-Ok-false.field-0-test)).1 c.scan_fields.ensures.err
