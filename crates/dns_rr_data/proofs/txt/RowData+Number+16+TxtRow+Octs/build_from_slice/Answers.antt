use Rattle.std.proofs.Common.{ℕ, length, ap, arith}
use Rattle.dns_rr_data.proofs.Appended.{at_most}
use Rattle.dns_rr_data.proofs.Builds.{filled_few}
use Rattle.dns_rr_data.proofs.txt.RowData+Number+16+TxtRow+Octs.build_from_slice.Goals as goal

pub of_strings-requires-clause-short : goal.of_strings-requires-clause-short
of_strings-requires-clause-short g c =
    let few = at_most _ (λ over. let no = c.is_long.ensures.1 over in let is = c.if-is_long.false in cc) in
    let fits = filled_few c.in_ok-append_strings.ensures.ok c.empty-builder.ensures.octets c.in_ok-fill.ensures.ok (omega (arith, few)) in
    omega (arith, fits, ap (length {A = ℕ}) c.from_builder.ensures)
