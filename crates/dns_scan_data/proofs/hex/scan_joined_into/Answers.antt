use Rattle.std.proofs.Common.{◌∙◌, ℕ, List, sym, subst}
use Rattle.dns_scan.specs.Token.{IsEntry, IsWord}
use Rattle.dns_scan_data.proofs.AppendedHex.{hex_appended, no_hex}
use Rattle.dns_scan_data.proofs.hex.scan_joined_into.Goals as goal

pub returns-in-Ok-append_hex-clause-ok : goal.returns-in-Ok-append_hex-clause-ok
returns-in-Ok-append_hex-clause-ok g c =
    let before = g.S.Scanner.tokens c.args.scanner.now in
    let entry = subst (λ (l : List ℕ). IsEntry IsWord before l) (sym c.as_bytes.ensures.value) c.in-Ok.ensures.ok.0 in
    let decoded = c.in-Ok-append_hex.ensures.ok in
    hex_appended before _ c.as_bytes.result.now decoded.0 _ _ entry c.in-Ok.ensures.ok.1 decoded.1 decoded.2

pub returns-clause-err : goal.returns-clause-err
returns-clause-err g c = λ short.
    let before = g.S.Scanner.tokens c.args.scanner.now in
    let entry = subst (λ (l : List ℕ). IsEntry IsWord before l) (sym c.as_bytes.ensures.value) c.in-Ok.ensures.ok.0 in
    no_hex before c.as_bytes.result.now entry (c.in-Err-append_hex.ensures.err (sym c.scan_error.ensures ∙ short))
