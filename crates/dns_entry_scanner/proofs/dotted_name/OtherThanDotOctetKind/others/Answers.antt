use Rattle.std.proofs.Common.{◌==◌, ℕ, cond, arith}
use Rattle.std.proofs.lemmas.Simd.{zip2_splat}
use Rattle.dns_label.proofs.LaneMarks.{mask_of_marks}
use Rattle.dns_entry_scanner.proofs.dotted_name.OtherThanDotOctetKind.others.Goals as goal

abbrev same : ℕ → ℕ → ℕ
same octet other = cond (octet == other) 255 0

pub returns : goal.returns
returns c =
    let octets = c.args.octets in
    let long = c.fits-octets.0 in
    mask_of_marks (λ octet. octet == 46) octets (omega (arith, long)) (zip2_splat same octets 16 46 long)
