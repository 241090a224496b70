use Rattle.std.proofs.Common.{◌∙◌, ap, sym}
use Rattle.std.specs.Ordering.{ordering_then, nat_cmp}
use Rattle.std.specs.Cmp.Lexicographic.{slice_cmp}
use Rattle.dns_fields.proofs.NameOctets.{string_seam}
use Rattle.dns_fields.proofs.field.strings.CharStrFieldValue.canonical_field_cmp.Goals as goal

pub returns : goal.returns
returns g c behind beyond =
    string_seam c.args.self.now c.args.other.now behind beyond
    ∙ ap (λ o. ordering_then o (slice_cmp nat_cmp behind beyond)) (sym c.canonical_cmp.ensures)
