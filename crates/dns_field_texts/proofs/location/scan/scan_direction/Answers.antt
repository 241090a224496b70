use Rattle.std.proofs.Common.{refl}
use Rattle.dns_field_texts.specs.LocationParts.{IsDirection}
use Rattle.dns_field_texts.proofs.LocationScans.{lost}
use Rattle.dns_field_texts.proofs.location.scan.scan_direction.Goals as goal

pub returns-in_default-clause-none : goal.returns-in_default-clause-none
returns-in_default-clause-none g c =
    (refl, λ left value ends. lost (IsDirection c.args.axis c.args.angle value) c.in_ok-peek_text.ensures.ok.1 (c.in_default.ensures.none value) ends.takes)
