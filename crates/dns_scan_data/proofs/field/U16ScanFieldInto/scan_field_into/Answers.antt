use Rattle.std.proofs.Common.{◌++◌, ℕ, List, refl, ap, ◌∙◌}
use Rattle.dns_fields.specs.Fields.{number16}
use Rattle.dns_scan_data.proofs.field.U16ScanFieldInto.scan_field_into.Goals as goal

pub returns-in-Ok-append_two-clause-ok : goal.returns-in-Ok-append_two-clause-ok
returns-in-Ok-append_two-clause-ok g c =
    record { field = number16 c.in-Ok.number; kind = refl; scans = c.in-Ok.ensures.ok; behind = c.in-Ok-append_two.ensures.ok ∙ ap (λ (l : List ℕ). c.args.octets.now.items ++ l) c.to_be_bytes.ensures }
