use Rattle.dns_fields.proofs.NameOctets.{wire_seam}
use Rattle.std.proofs.Common.{ap, ◌∙◌, sym}
use Rattle.std.specs.Ordering.{ordering_then, nat_cmp}
use Rattle.std.specs.Cmp.Lexicographic.{slice_cmp}
use Rattle.dns_fields.proofs.field.names.canonical_names_cmp.Goals as goal

pub returns : goal.returns
returns g c behind beyond =
    wire_seam _ _ c.as_flat_slice.ensures.name.labels c.as_flat_slice-2.ensures.name.labels behind beyond
    ∙ ap (λ o. ordering_then o (slice_cmp nat_cmp behind beyond)) (sym c.lowercase_composed_cmp.ensures)
