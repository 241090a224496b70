use Rattle.std.proofs.Common.{◌≡◌, ◌∙◌, ℕ, List, ap, arith, length, take, subst, sym}
use Rattle.std.specs.List.{AllByRecursion}
use Rattle.std.proofs.lemmas.List.{take_all}
use Rattle.dns_scan_data.specs.AppendedHex.{IsHexDigit, SpellsPairs}
use Rattle.dns_scan_data.proofs.HexLanes.{picked, sixteen_spell}
use Rattle.dns_scan_data.proofs.hex_piece.decode_piece.Goals as goal

pub returns : goal.returns
returns c =
    let digits = c.args.digits.now in
    let whole : take 16 digits ≡ digits = take_all 16 digits (omega (arith, c.told-digits)) in
    let are : AllByRecursion IsHexDigit (take 16 digits) = c.are_digits.ensures (let yes = c.if-not-are_digits.false in cc) in
    let spelled = sixteen_spell (take 16 digits) (ap (length {A = ℕ}) whole ∙ c.told-digits) are in
    subst (λ (l : List ℕ). SpellsPairs l (picked c.digit_values-values.result)) whole
    (subst (λ (v : List ℕ). SpellsPairs (take 16 digits) (picked v)) (sym c.digit_values-values.ensures) spelled)
