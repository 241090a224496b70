use Rattle.std.proofs.Common.{◌∙◌, ap, sym}
use Rattle.std.specs.Ordering.{ordering_then, nat_cmp}
use Rattle.std.specs.Cmp.Lexicographic.{slice_cmp}
use Rattle.dns_name.proofs.Orders.{cmp_seam}
use Rattle.dns_fields.proofs.field.addresses.level_cmp.Goals as goal

pub returns : goal.returns
returns c behind beyond =
    cmp_seam nat_cmp c.args.octets.now c.args.others.now behind beyond c.requires
    ∙ ap (λ o. ordering_then o (slice_cmp nat_cmp behind beyond)) (sym c.cmp.ensures)
