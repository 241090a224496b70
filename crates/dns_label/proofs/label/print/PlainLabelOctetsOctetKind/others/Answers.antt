use Rattle.std.proofs.Common.{◌||◌, ◌==◌, ◌∙◌, ℕ, cond, nat_lt, sym, arith}
use Rattle.std.proofs.lemmas.Simd.{zip2_splat, zip2_splat_left}
use Rattle.std.specs.Prelude.{not}
use Rattle.dns_label.specs.Printed.{is_printed_as_itself}
use Rattle.dns_label.proofs.LaneMarks.{either_marks, mask_of_marks, mask_none}
use Rattle.dns_label.proofs.PlainLabels.{usual_plain}
use Rattle.dns_label.proofs.label.print.PlainLabelOctetsOctetKind.others.Goals as goal

abbrev below : ℕ → ℕ → ℕ
below octet other = cond (nat_lt octet other) 255 0

abbrev same : ℕ → ℕ → ℕ
same octet other = cond (octet == other) 255 0

pub returns-then-rare-eq0 : goal.returns-then-rare-eq0
returns-then-rare-eq0 c =
    let octets = c.args.octets in
    let long = c.fits-octets.0 in
    sym (mask_none
    (λ octet. not (not (((nat_lt octet 42 || nat_lt 126 octet) || ((octet == 46) || (octet == 59))) || (octet == 92))))
    (λ octet. not (is_printed_as_itself octet)) usual_plain octets
    (sym (mask_of_marks (λ octet. ((nat_lt octet 42 || nat_lt 126 octet) || ((octet == 46) || (octet == 59))) || (octet == 92))
    octets (omega (arith, long))
    (either_marks _ _ octets
    (either_marks _ _ octets
    (either_marks _ _ octets (zip2_splat below octets 16 42 long) (zip2_splat_left below 126 16 octets long))
    (either_marks _ _ octets (zip2_splat same octets 16 46 long) (zip2_splat same octets 16 59 long)))
    (zip2_splat same octets 16 92 long)))
    ∙ c.if-rare-eq0.true))
