use Rattle.std.proofs.Common.{◌∷◌, subst, sym}
use Rattle.dns_fields.specs.Fields.{Kind}
use Rattle.dns_fields.specs.Scanned.{NoRowScans}
use Rattle.dns_fields.proofs.ScanParts.{no_first, no_others}
use Rattle.zone_reasons.proofs.fields.Tuple2FirstFault.first_fault.Goals as goal

pub returns-in-Ok-Some : goal.returns-in-Ok-Some
returns-in-Ok-Some g c =
    subst (λ (k : Kind). NoRowScans (g.S.Scanner.names c.args.scanner.now) (k ∷ g.B.HasFields.kinds) (g.S.Scanner.tokens c.args.scanner.now))
    (g.met.A.HasField.of_kind c.in-Ok._field)
    (no_others _ _ c.scan_field.ensures.names _ _ _ _ c.in-Ok.ensures.ok (rw c.in-Ok-Some.field-0-is at c.in-Ok-Some.ensures))

pub returns : goal.returns
returns g c = no_first _ _ _ _ (c.in-Err.ensures.err (sym c.if-is_want_of_memory.ensures))
