use Rattle.std.proofs.Common.{◌∙◌, ℕ, List, sym, subst}
use Rattle.dns_scan.specs.Token.{IsEntry, IsWord}
use Rattle.dns_field_texts.proofs.AppendedBase64.{base64_appended, no_base64}
use Rattle.dns_field_texts.proofs.base64.scan_joined_into.Goals as goal

pub returns-in-Ok-append_base64-clause-ok : goal.returns-in-Ok-append_base64-clause-ok
returns-in-Ok-append_base64-clause-ok g c =
    let before = g.S.Scanner.tokens c.args.scanner.now in
    let entry = subst (λ (l : List ℕ). IsEntry IsWord before l) (sym c.as_bytes.ensures.value) c.in-Ok.ensures.ok.0 in
    let decoded = c.in-Ok-append_base64.ensures.ok in
    base64_appended before _ c.as_bytes.result.now decoded.0 _ _ entry c.in-Ok.ensures.ok.1 decoded.1 decoded.2

pub returns-clause-err : goal.returns-clause-err
returns-clause-err g c = λ short.
    let before = g.S.Scanner.tokens c.args.scanner.now in
    let entry = subst (λ (l : List ℕ). IsEntry IsWord before l) (sym c.as_bytes.ensures.value) c.in-Ok.ensures.ok.0 in
    no_base64 before c.as_bytes.result.now entry (c.in-Err-append_base64.ensures.err (sym c.scan_error.ensures ∙ short))
