use Rattle.std.proofs.Common.{◌≡◌, ◌+◌, Bool, true, false, if◌then◌else◌, length, min, refl, sym, ◌∙◌, ap, arith}
use Rattle.std.specs.Int.{from_bool}
use Rattle.dns_entry_scanner.specs.Gap.{end_in, place_after}
use Rattle.dns_entry_scanner.specs.TokenSpan.{token_in}
use Rattle.dns_entry_scanner.proofs.TakenTokens.{place_last}
use Rattle.dns_entry_scanner.proofs.row_scanner.RowScanner.taken_end.Goals as goal

closing : (quoted : Bool) → from_bool quoted ≡ (if quoted then 1 else 0)
closing true = refl
closing false = refl

pub returns : goal.returns
returns g c =
    let self = c.args.self.now in
    let text = self.text.now in
    let last = c.in-Some.last.now in
    let start : c.min.result ≡ min last.start (length text) = c.min.ensures ∙ ap (λ n. min n (length text)) c.start.ensures in
    let size : length c.text.result.now ≡ length (token_in text last).text = ap length c.text.ensures in
    let quote : c.from.result ≡ (if last.quoted then 1 else 0) = c.from.ensures ∙ ap from_bool c.is_quoted.ensures ∙ closing last.quoted in
    let end : c.min.result + length c.text.result.now + c.from.result ≡ end_in text last = omega (arith, start, size, quote) in
    end ∙ sym (ap (place_after text self.place) c.in-Some.ensures.cases.0 ∙ place_last text self.place c.in-Some.field-0-1.now last)
