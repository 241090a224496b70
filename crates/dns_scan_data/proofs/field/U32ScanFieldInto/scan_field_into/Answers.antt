use Rattle.std.proofs.Common.{◌++◌, ℕ, List, refl, ap, ◌∙◌}
use Rattle.dns_fields.specs.Fields.{number32}
use Rattle.dns_scan_data.proofs.field.U32ScanFieldInto.scan_field_into.Goals as goal

pub returns-in-Ok-append_four-clause-ok : goal.returns-in-Ok-append_four-clause-ok
returns-in-Ok-append_four-clause-ok g c =
    record { field = number32 c.in-Ok.number; kind = refl; scans = c.in-Ok.ensures.ok; behind = c.in-Ok-append_four.ensures.ok ∙ ap (λ (l : List ℕ). c.args.octets.now.items ++ l) c.to_be_bytes.ensures }
