use Rattle.std.proofs.Common.{◌==◌, ◌∙◌, ℕ, Bool, cond, map, nat_lt, ap, sym, arith}
use lib.Lanes.{mask_l}
use Rattle.std.proofs.lemmas.Simd.{zip2_splat, zip2_splat_left}
use Rattle.dns_label.proofs.LaneMarks.{either_marks, mask_of_marks}
use Rattle.dns_entry_scanner.specs.Octets.{may_end_word}
use Rattle.dns_entry_scanner.proofs.RowFronts.{twice_not}
use Rattle.dns_entry_scanner.proofs.row_front.may_end_word.Goals as goal

abbrev below : ℕ → ℕ → ℕ
below octet other = cond (nat_lt octet other) 255 0

abbrev same : ℕ → ℕ → ℕ
same octet other = cond (octet == other) 255 0

pub returns : goal.returns
returns c =
    let octets = c.args.octets in
    let long = c.fits-octets.0 in
    mask_of_marks may_end_word octets (omega (arith, long))
    (either_marks _ _ octets
    (either_marks _ _ octets (zip2_splat below octets 16 42 long) (zip2_splat_left below 126 16 octets long))
    (either_marks _ _ octets (zip2_splat same octets 16 59 long) (zip2_splat same octets 16 92 long)))
    ∙ ap (λ (ends : ℕ → Bool). mask_l (map ends octets)) (sym twice_not)
