use Rattle.std.proofs.Common.{ℕ, List, [], refl, subst}
use Rattle.std.proofs.lemmas.Result.{err_from_is_err_and}
use Rattle.dns_scan.specs.Token.{Token, IsEntry, IsStringOnWire}
use Rattle.dns_fields.proofs.TextStrings.{entry_strings, entry_scanned, no_strings, no_tokens}
use Rattle.dns_fields.proofs.scan.rests.LastStringsScanRow.scan_fields.Goals as goal

pub returns-then-not-continues-clause-err : goal.returns-then-not-continues-clause-err
returns-then-not-continues-clause-err g c = λ short.
    no_tokens _ _ (λ some. let yes = c.continues.ensures.some.1 some in absurd (let no = c.if-not-continues.true in cc))

pub returns-in_err-scan_charstr_entry-clause-err : goal.returns-in_err-scan_charstr_entry-clause-err
returns-in_err-scan_charstr_entry-clause-err g c =
    let p = err_from_is_err_and c.from_residual.result c.from_residual.ensures.1 in
    rw (p.1, p.2)
    (λ short.
    no_strings _ _
    (subst (λ (t : List Token). (octets : List ℕ) → IsEntry IsStringOnWire t octets → ⊥) c.continues.ensures.stays
    (c.in_err-scan_charstr_entry.ensures.err short)))

pub of_strings-requires : goal.of_strings-requires
of_strings-requires g c =
    entry_strings (g.S.Scanner.tokens c.args.scanner.now) _ (c.continues.ensures.some.0 (let no = c.if-not-continues.false in cc))
    (subst (λ (t : List Token). IsEntry IsStringOnWire t (g.Octs.Octets.list c.in_ok-scan_charstr_entry.field-0)) c.continues.ensures.stays
    c.in_ok-scan_charstr_entry.ensures.ok.0)

pub returns-clause-ok : goal.returns-clause-ok
returns-clause-ok g c =
    let names = g.S.Scanner.names c.args.scanner.now in
    let all = entry_scanned names (g.S.Scanner.tokens c.args.scanner.now) [] _ c.of_strings.result
    (c.continues.ensures.some.0 (let no = c.if-not-continues.false in cc))
    (subst (λ (t : List Token). IsEntry IsStringOnWire t (g.Octs.Octets.list c.in_ok-scan_charstr_entry.field-0)) c.continues.ensures.stays
    c.in_ok-scan_charstr_entry.ensures.ok.0)
    c.of_strings.ensures refl in
    ([], all, c.in_ok-scan_charstr_entry.ensures.ok.1)
