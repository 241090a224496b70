use Rattle.std.proofs.Common.{◌++◌, ℕ, List, refl, ap, ◌∙◌}
use Rattle.std.specs.Net.Addr.{ipv4_octets}
use Rattle.dns_fields.specs.Fields.{ipv4}
use Rattle.dns_scan_data.proofs.field.Ipv4AddrScanFieldInto.scan_field_into.Goals as goal

pub returns-in-Ok-append_four-clause-ok : goal.returns-in-Ok-append_four-clause-ok
returns-in-Ok-append_four-clause-ok g c =
    record { field = ipv4 (ipv4_octets c.in-Ok.address); kind = refl; scans = c.in-Ok.ensures.ok; behind = c.in-Ok-append_four.ensures.ok ∙ ap (λ (l : List ℕ). c.args.octets.now.items ++ l) c.octets.ensures }
