use Rattle.std.proofs.Common.{◌≡◌, ◌^◌, Some, None, ◌∙◌, ap}
use Rattle.dns_name.specs.Mnemonic.{number_spelled}
use Rattle.dns_scan.proofs.Tokens.{if_err_weaker}
use Rattle.dns_scan.proofs.scan.numbers.U32Scan.scan.Goals as goal

pub returns-clause-err : goal.returns-clause-err
returns-clause-err g c =
    if_err_weaker c.scan_ascii_str.result _ _
    (λ error none short value left scans.
    let ran = none short scans.text left scans.takes in
    let bad : None ≡ Some value = ran.1 ∙ ap (number_spelled (2 ^ 32)) ran.2 ∙ scans.reads_as in cc) c.scan_ascii_str.ensures.err
