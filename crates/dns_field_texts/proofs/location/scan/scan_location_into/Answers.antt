use Rattle.std.proofs.Common.{◌++◌, ◌∙◌, ℕ, List, ap}
use Rattle.std.proofs.lemmas.Result.{on_ok_weaker}
use Rattle.dns_field_texts.specs.LocationParts.{location_of}
use Rattle.dns_field_texts.proofs.location.scan.scan_location_into.Goals as goal

pub returns-clause-ok : goal.returns-clause-ok
returns-clause-ok g c =
    on_ok_weaker c.append_octets.result
    (λ behind. record {
      location = location_of c.in_ok-place.place;
      scans = c.in_ok-place.ensures.ok.0;
      none = c.in_ok-place.ensures.ok.1;
      behind = behind ∙ ap (λ (l : List ℕ). c.args.octets.now.items ++ l) c.octets.ensures;
    })
    c.append_octets.ensures.ok
