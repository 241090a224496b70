use Rattle.std.proofs.Common.{ℕ, List, sym, subst}
use Rattle.std.specs.Net.Grammar.{IsDotted}
use Rattle.dns_scan.proofs.Tokens.{if_err_weaker}
use Rattle.dns_fields.proofs.ScanLeaves.{no_ipv4}
use Rattle.dns_fields.proofs.scan.leaves.Ipv4AddrScanField.scan_field.Goals as goal

pub returns-clause-err : goal.returns-clause-err
returns-clause-err g c =
    if_err_weaker c.scan_ascii_str.result _ _
    (λ error none short. no_ipv4 _ _
    (λ text left octets takes written.
    let ran = none short text left takes in
    ran.1.1 octets (subst (λ (t : List ℕ). IsDotted t octets) (sym ran.2) written))) c.scan_ascii_str.ensures.err
