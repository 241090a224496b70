use Rattle.dns_name.proofs.Flat.{always_on_err}
use Rattle.std.proofs.Common.{sym, subst}
use Rattle.dns_scan.specs.StringText.{Spells}
use Rattle.dns_scan.specs.Token.{SpellsOctets, unquoted}
use Rattle.dns_scan.proofs.Tokens.{one_taken, not_taken, if_err_weaker}
use Rattle.dns_scan.proofs.scan.iter_scanner.IterScannerScanner.scan_octets.Goals as goal

pub returns-clause-left : goal.returns-clause-left
returns-clause-left c = always_on_err c.octets_of.result (one_taken _ _ _ c.in_ok-text.ensures.ok)

pub returns-clause-err : goal.returns-clause-err
returns-clause-err c =
    if_err_weaker c.octets_of.result _ _
    (λ error none short octets left.
    not_taken (SpellsOctets octets) c.args.self.now c.next_text.new.self left (unquoted c.in_ok-text.text.now) c.in_ok-text.ensures.ok
    (λ spells. none short octets (subst (λ l. Spells l octets) (sym c.as_bytes.ensures.value) spells))) c.octets_of.ensures.err
