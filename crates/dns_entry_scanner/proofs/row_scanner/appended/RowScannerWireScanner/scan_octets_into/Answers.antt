use Rattle.dns_scan.specs.Token.{SpellsOctets}
use Rattle.dns_scan.proofs.Tokens.{not_taken, if_err_weaker}
use Rattle.dns_entry_scanner.specs.RowToken.{token_of}
use Rattle.dns_entry_scanner.proofs.row_scanner.appended.RowScannerWireScanner.scan_octets_into.Goals as goal

pub returns-clause-err : goal.returns-clause-err
returns-clause-err g c =
    if_err_weaker c.append_text.result _ _
    (λ error none short octets left.
    not_taken (SpellsOctets octets) _ _ left (token_of c.in_ok-token.token) c.in_ok-token.ensures.ok (none short octets)) c.append_text.ensures.err
