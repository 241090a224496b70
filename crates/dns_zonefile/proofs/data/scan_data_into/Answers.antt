use Rattle.std.proofs.Common.{false, sym, ◌≡◌}
use Rattle.dns_rdata.proofs.ScanAny.{err_same, is_false}
use Rattle.dns_zonefile.proofs.AppendedData.{data_moved}
use Rattle.dns_zonefile.proofs.data.scan_data_into.Goals as goal

-- the marker was there, and is taken
pub returns-in-Ok-true-clause-ok : goal.returns-in-Ok-true-clause-ok
returns-in-Ok-true-clause-ok g c = data_moved _ _ _ c.in-Ok-true.ensures.names _ _ _ _
    (sym (c.in-Ok-true.ensures.marked c.in-Ok-true.field-0-test)) _ _ c.scan_unknown_into.ensures.ok

pub returns-in-Ok-true-clause-err : goal.returns-in-Ok-true-clause-err
returns-in-Ok-true-clause-err g c = err_same _ (λ error. g.S.Error.ScannerError.is_short error ≡ false) _ _ c.in-Ok-true.ensures.names
    _ _ _ (c.in-Ok-true.ensures.marked c.in-Ok-true.field-0-test) c.scan_unknown_into.ensures.err

-- nothing is taken
pub returns-in-Ok-false-clause-ok : goal.returns-in-Ok-false-clause-ok
returns-in-Ok-false-clause-ok g c = data_moved _ _ _ c.in-Ok-false.ensures.names _ _ _ _
    (c.in-Ok-false.ensures.other (is_false c.in-Ok-false.field-0-test)).0 _ _ c.scan_typed_into.ensures.ok

pub returns-in-Ok-false-clause-err : goal.returns-in-Ok-false-clause-err
returns-in-Ok-false-clause-err g c = err_same _ (λ error. g.S.Error.ScannerError.is_short error ≡ false) _ _ c.in-Ok-false.ensures.names
    _ _ _ (sym (c.in-Ok-false.ensures.other (is_false c.in-Ok-false.field-0-test)).0) c.scan_typed_into.ensures.err
