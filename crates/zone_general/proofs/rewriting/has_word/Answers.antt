use Rattle.std.proofs.Common.{◌≡◌, ◌∙◌, Some, false, ap, get_or, sym}
use Rattle.std.proofs.lemmas.Slice.Eq.{bytes_eq-Decides}
use Rattle.dns_scan.specs.Token.{Token}
use Rattle.dns_entry_scanner.specs.TokenSpan.{token_in}
use Rattle.dns_entry_scanner.specs.declared.token_span.TokenSpan.{TokenSpan}
use Rattle.zone_general.proofs.RowTypes.{token_at}
use Rattle.zone_general.proofs.rewriting.has_word.Goals as goal

pub returns-then-not-is_quoted : goal.returns-then-not-is_quoted
returns-then-not-is_quoted c = λ yes.
    let row = c.args.row in
    let none : TokenSpan = record { start = 0; len = 0; quoted = false; has_escape = false } in
    let found = token_in row.text.now (get_or row.spans.now c.args.index none) in
    let at = token_at row.text.now row.spans.now c.args.index none c.requires in
    let text : found.text ≡ c.args.word.now = sym (c.token.ensures found at) ∙ (bytes_eq-Decides _ _).0 (sym c.eq.ensures ∙ yes) in
    let bare : found.quoted ≡ false = sym c.is_quoted.ensures ∙ c.if-not-is_quoted.true in
    at ∙ ap (λ (t : Token). Some t) (λ i. record { quoted = bare i; text = text i })
