use Rattle.dns_field_texts.specs.LocationParts.{IsAltitude}
use Rattle.dns_field_texts.proofs.LocationScans.{lost}
use Rattle.dns_field_texts.proofs.location.scan.scan_altitude.Goals as goal

pub returns-in-None-clause-err : goal.returns-in-None-clause-err
returns-in-None-clause-err g c = λ short altitude left takes.
    lost (IsAltitude altitude) c.in_ok-peek_text.ensures.ok.1 (c.in-None.ensures.none altitude) takes
