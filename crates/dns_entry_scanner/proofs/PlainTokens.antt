-- Tokens without a backslash: each octet is a printable character that stands for itself.
use Rattle.std.proofs.Common.{◌≡◌, ℕ, Bool, true, false, List, [], ◌∷◌, Some, map, refl, sym, ◌∙◌, ap, arith}
use Rattle.std.proofs.lemmas.Bool.{and_from, or_parts}
use Rattle.std.proofs.lemmas.Bool.Decides.{nat_tests}
use Rattle.std.proofs.lemmas.List.Elements.{All-cons, All-head, All-nil, All-tail}
use Rattle.std.specs.List.{AllByRecursion, flat_map, list_all}
use Rattle.std.specs.Prelude.{◌==◌, All}
use Rattle.dns_label.specs.declared.symbol.Symbol.{Symbol}
use Rattle.dns_label.specs.declared.symbol.Symbol.TheVariants.{Char, SimpleEscape, DecimalEscape}
use Rattle.dns_label.specs.Symbol.{IsSymbol, is_plain, spelled}
use Rattle.dns_scan.specs.Token.{Token}
use Rattle.dns_text.specs.Tokens.{IsIn, IsRun, Next, Row}
use Rattle.dns_text.specs.Tokens.Next.{goes, comment, quoted, unquoted}
use Rattle.dns_text.specs.Tokens.Row.{end, token}
use Rattle.dns_entry_scanner.specs.RowFound.{IsRowAt}
use Rattle.dns_entry_scanner.specs.TokenSpan.{IsMarked, IsPlainUnmarked, has_backslash, token_in}
use Rattle.dns_entry_scanner.specs.declared.token_span.TokenSpan.{TokenSpan}

char_plain : (octet : ℕ) → IsSymbol (Char octet) → is_plain octet ≡ true
char_plain octet is = grind (arith, nat_tests)

symbols_plain : (in_quotes : Bool) (symbols : List Symbol) → AllByRecursion (IsIn in_quotes) symbols
    → has_backslash (flat_map spelled symbols) ≡ false → list_all is_plain (flat_map spelled symbols) ≡ true
symbols_plain in_quotes [] each none = refl
symbols_plain in_quotes (Char octet ∷ symbols) each none =
    let both = or_parts (octet == 92) (has_backslash (flat_map spelled symbols)) none in
    and_from _ _ (char_plain octet each.0.0) (symbols_plain in_quotes symbols each.1 both.1)
symbols_plain in_quotes (SimpleEscape octet ∷ symbols) each none = let bad : true ≡ false = none in absurd cc
symbols_plain in_quotes (DecimalEscape number ∷ symbols) each none = let bad : true ≡ false = none in absurd cc

run_plain : {in_quotes : Bool} {text front rest : List ℕ} → IsRun in_quotes text front rest → has_backslash front ≡ false
    → list_all is_plain front ≡ true
run_plain {in_quotes} run none =
    ap (list_all is_plain) run.written ∙ symbols_plain in_quotes run.symbols run.each (sym (ap has_backslash run.written) ∙ none)

-- the same of a token
abbrev PlainBare : Token → Type 0
PlainBare found = has_backslash found.text ≡ false → list_all is_plain found.text ≡ true

next_plain : {inside out : Bool} {text rest : List ℕ} {found : Token} → Next inside text (Some found) out rest → PlainBare found
next_plain (goes octet behind head next) = next_plain next
next_plain (comment octet head next) = next_plain next
next_plain (quoted octet head run) = run_plain run
next_plain (unquoted octet head run some) = run_plain run

tokens_plain : {inside : Bool} {text rest : List ℕ} {tokens : List Token} → Row inside text tokens rest → AllByRecursion PlainBare tokens
tokens_plain (end next) = tt
tokens_plain (token out behind next row) = (next_plain next, tokens_plain row)

spans_plain : (text : List ℕ) (spans : List TokenSpan) → AllByRecursion PlainBare (map (λ span. token_in text span) spans)
    → All (IsMarked text) spans → All (IsPlainUnmarked text) spans
spans_plain text [] each marked = All-nil (IsPlainUnmarked text)
spans_plain text (span ∷ spans) each marked =
    All-cons (IsPlainUnmarked text) span spans (λ unmarked. each.0 (sym (All-head (IsMarked text) span spans marked) ∙ unmarked))
    (spans_plain text spans each.1 (All-tail (IsMarked text) span spans marked))

-- the tokens of a row's spans
pub row_plain : {text : List ℕ} {place next : ℕ} {spans : List TokenSpan} {blank_led : Bool} → IsRowAt text place spans next blank_led
    → All (IsPlainUnmarked text) spans
row_plain {text} {spans = spans} row = spans_plain text spans (tokens_plain row.row) row.marked
