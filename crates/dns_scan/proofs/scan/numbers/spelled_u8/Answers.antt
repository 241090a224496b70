use Rattle.std.proofs.Common.{◌≡◌, ◌^◌, Some, ap, sym, ◌∙◌, arith}
use Rattle.dns_name.specs.Mnemonic.{number_spelled}
use Rattle.dns_scan.proofs.DigitNumbers.{number_past}
use Rattle.dns_scan.proofs.scan.numbers.spelled_u8.Goals as goal

pub returns-else-number-lt256 : goal.returns-else-number-lt256
returns-else-number-lt256 c =
    let text = c.args.text.now in
    let number = c.in-Some.number in
    let spelled : number_spelled (2 ^ 32) text ≡ Some number =
    ap (number_spelled (2 ^ 32)) (sym c.as_bytes.ensures.value) ∙ sym c.number_of.ensures ∙ c.in-Some.is in
    sym (number_past (2 ^ 8) text number spelled (omega (arith, c.if-number-lt256.false)))
