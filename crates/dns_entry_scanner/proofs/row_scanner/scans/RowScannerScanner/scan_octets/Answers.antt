use Rattle.dns_wire.proofs.Flat.{always_on_err}
use Rattle.dns_scan.specs.Token.{SpellsOctets}
use Rattle.dns_scan.proofs.Tokens.{one_taken, not_taken, if_err_weaker}
use Rattle.dns_entry_scanner.specs.RowToken.{token_of}
use Rattle.dns_entry_scanner.proofs.row_scanner.scans.RowScannerScanner.scan_octets.Goals as goal

pub returns-clause-left : goal.returns-clause-left
returns-clause-left g c = always_on_err c.octets_of.result (one_taken _ _ _ c.in_ok-token.ensures.ok)

pub returns-clause-err : goal.returns-clause-err
returns-clause-err g c =
    if_err_weaker c.octets_of.result _ _
    (λ error none short octets left.
    not_taken (SpellsOctets octets) _ _ left (token_of c.in_ok-token.token) c.in_ok-token.ensures.ok (none short octets)) c.octets_of.ensures.err
