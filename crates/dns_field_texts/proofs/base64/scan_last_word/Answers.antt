use Rattle.std.proofs.Common.{◌≡◌, ◌==◌, ◌∙◌, ℕ, List, ap, false, true, length, rules, sym, subst}
use Rattle.std.specs.Prelude.{string_bytes}
use Rattle.std.specs.String.{string_len}
use Rattle.dns_scan.specs.Token.{IsEntry, IsWord, Token}
use Rattle.dns_field_texts.proofs.AppendedBase64.{last_alone, last_empty, no_tokens}
use Rattle.dns_field_texts.proofs.base64.scan_last_word.Goals as goal

pub returns-in-Err-clause-err : goal.returns-in-Err-clause-err
returns-in-Err-clause-err g c = λ short is.
    let ran = c.in-Err.ensures.err short is.word is.left is.takes in let bad : false ≡ true = ran.1 in cc

pub returns-then-not-continues-clause-ok : goal.returns-then-not-continues-clause-ok
returns-then-not-continues-clause-ok g c =
    let none = no_tokens (g.S.Scanner.tokens c.scan_ascii_str.new.self) c.continues.result c.if-not-continues.true c.continues.ensures.some.1 in
    (last_alone c.in-Ok.ensures.ok.0 c.in-Ok.ensures.ok.1 none, c.continues.ensures.stays ∙ none)

pub returns-in-Ok-2-clause-err : goal.returns-in-Ok-2-clause-err
returns-in-Ok-2-clause-err g c = λ short is.
    let entry = subst (λ (l : List Token). IsEntry IsWord l (string_bytes c.in-Ok-scan_ascii_entry.text)) c.continues.ensures.stays c.in-Ok-scan_ascii_entry.ensures.ok.0 in
    let none = last_empty c.in-Ok.ensures.ok.1 entry is in
    let size : string_len c.in-Ok-scan_ascii_entry.text ≡ length (string_bytes c.in-Ok-scan_ascii_entry.text) = search rules in
    let zero : string_len c.in-Ok-scan_ascii_entry.text ≡ 0 = size ∙ ap (length {A = ℕ}) none in
    let bad : false ≡ true = sym c.if-is_empty.false ∙ c.is_empty.ensures ∙ ap (λ (n : ℕ). n == 0) zero in cc
