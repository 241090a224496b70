use Rattle.dns_rdata.proofs.ScanAny.{none_unknown}
use Rattle.dns_rdata.proofs.zone_record_data.ZoneRecordData.scan_octets.Goals as goal

pub returns-in-Err-clause-err : goal.returns-in-Err-clause-err
returns-in-Err-clause-err g c other fits = none_unknown _ _ _ (c.in-Err.ensures.err other)
