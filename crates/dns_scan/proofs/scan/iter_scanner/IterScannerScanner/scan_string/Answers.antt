use Rattle.std.proofs.Common.{ℕ, List, sym, subst}
use Rattle.std.specs.Str.{IsUtf8}
use Rattle.std.proofs.lemmas.Result.{err_from_is_err_and}
use Rattle.dns_name.proofs.Flat.{always_on_err}
use Rattle.dns_scan.specs.StringText.{Spells}
use Rattle.dns_scan.specs.Token.{SpellsOctets, unquoted}
use Rattle.dns_scan.proofs.TextsBack.{spells_one}
use Rattle.dns_scan.proofs.Tokens.{one_taken, not_taken}
use Rattle.dns_scan.proofs.scan.iter_scanner.IterScannerScanner.scan_string.Goals as goal

pub returns-in_err-octets-clause-left : goal.returns-in_err-octets-clause-left
returns-in_err-octets-clause-left c = always_on_err c.from_residual-in_err-octets.result (one_taken _ _ _ c.in_ok-text.ensures.ok)

pub returns-in_err-octets-clause-err : goal.returns-in_err-octets-clause-err
returns-in_err-octets-clause-err c =
    let p = err_from_is_err_and c.from_residual-in_err-octets.result c.from_residual-in_err-octets.ensures.1 in
    rw (p.1, p.2)
    (λ short text left utf8.
    not_taken (SpellsOctets text) c.args.self.now c.next_text.new.self left (unquoted c.in_ok-text.text.now) c.in_ok-text.ensures.ok
    (λ spells. c.in_err-octets.ensures.err short text (subst (λ l. Spells l text) (sym c.as_bytes.ensures.value) spells)))

pub returns-clause-left : goal.returns-clause-left
returns-clause-left c = one_taken _ _ _ c.in_ok-text.ensures.ok

pub returns-clause-err : goal.returns-clause-err
returns-clause-err c = λ short text left utf8.
    not_taken (SpellsOctets text) c.args.self.now c.next_text.new.self left (unquoted c.in_ok-text.text.now) c.in_ok-text.ensures.ok
    (λ spells.
    let here : Spells c.in_ok-text.text.now c.in_ok-octets.octets.items =
    subst (λ l. Spells l c.in_ok-octets.octets.items) c.as_bytes.ensures.value c.in_ok-octets.ensures.ok in
    let same = spells_one c.in_ok-text.text.now c.in_ok-octets.octets.items text here spells in
    let P : List ℕ → Type 0 = λ l. IsUtf8 l in
    let whole = subst P same utf8 in
    let bad = c.in-Err.ensures.succeeds whole in cc)
