use Rattle.std.proofs.Common.{◌||◌, ◌==◌, ◌∙◌, ℕ, Bool, cond, map, nat_lt, ap, arith}
use Rattle.std.specs.Simd.Lanes.{mask_l}
use Rattle.std.proofs.lemmas.Simd.{zip2_splat, zip2_splat_left}
use Rattle.dns_label.proofs.LaneMarks.{either_marks, mask_of_marks}
use Rattle.dns_wire.proofs.UnescapedTexts.{unescaped_not}
use Rattle.dns_entry_scanner.proofs.relative_name.UnescapedOctetsOctetKind.others.Goals as goal

abbrev below : ℕ → ℕ → ℕ
below octet other = cond (nat_lt octet other) 255 0

abbrev same : ℕ → ℕ → ℕ
same octet other = cond (octet == other) 255 0

pub returns : goal.returns
returns c =
    let octets = c.args.octets in
    let long = c.fits-octets.0 in
    mask_of_marks (λ octet. (nat_lt octet 32 || nat_lt 126 octet) || ((octet == 46) || (octet == 92))) octets (omega (arith, long))
    (either_marks _ _ octets
    (either_marks _ _ octets (zip2_splat below octets 16 32 long) (zip2_splat_left below 126 16 octets long))
    (either_marks _ _ octets (zip2_splat same octets 16 46 long) (zip2_splat same octets 16 92 long)))
    ∙ ap (λ (test : ℕ → Bool). mask_l (map test octets)) (λ i octet. unescaped_not octet i)
