use Rattle.dns_field_texts.proofs.LocationRead.{scans_location_is}
use Rattle.dns_field_texts.proofs.laws.scanned_location_is_one.Goals as goal

pub returns : goal.returns
returns c = λ location tokens scans. scans_location_is scans
