use Rattle.std.proofs.Common.{◌||◌, ◌==◌, ℕ, cond, nat_lt, arith}
use Rattle.std.proofs.lemmas.Simd.{zip2_splat, zip2_splat_left}
use Rattle.dns_label.proofs.LaneMarks.{either_marks, mask_of_marks}
use Rattle.dns_entry_scanner.proofs.plain_octets.QuotedOctetsOctetKind.others.Goals as goal

abbrev below : ℕ → ℕ → ℕ
below octet other = cond (nat_lt octet other) 255 0

abbrev same : ℕ → ℕ → ℕ
same octet other = cond (octet == other) 255 0

pub returns : goal.returns
returns c =
    let octets = c.args.octets in
    let long = c.fits-octets.0 in
    mask_of_marks (λ octet. (nat_lt octet 32 || nat_lt 126 octet) || ((octet == 34) || (octet == 92))) octets (omega (arith, long))
    (either_marks _ _ octets
    (either_marks _ _ octets (zip2_splat below octets 16 32 long) (zip2_splat_left below 126 16 octets long))
    (either_marks _ _ octets (zip2_splat same octets 16 34 long) (zip2_splat same octets 16 92 long)))
