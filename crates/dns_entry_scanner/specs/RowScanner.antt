-- The view of a scanner over a row: the remaining tokens, the origin, and the octets before the next token.
use Rattle.std.specs.Prelude.{ℕ, List, Option, drop, map, option_copied, take}
use Rattle.dns_scan.specs.Token.{Token}
use Rattle.dns_entry_scanner.specs.TokenSpan.{token_in}
use Rattle.dns_entry_scanner.specs.Gap.{gap_before, place_after}
use Rattle.dns_entry_scanner.specs.NameInText.{SpellsUnder}
use Rattle.dns_entry_scanner.specs.declared.row_scanner.RowScanner.{RowScanner}

abbrev pub tokens_of : {N : Type 0} → RowScanner N → List Token
tokens_of scanner = map (λ span. token_in scanner.text.now span) (drop scanner.taken scanner.spans.now)

abbrev pub origin_of : {N : Type 0} → RowScanner N → Option (List (List ℕ))
origin_of scanner = option_copied scanner.origin

-- a text spells a name under the origin
abbrev pub names_of : {N : Type 0} → RowScanner N → List ℕ → List (List ℕ) → Type 0
names_of scanner = SpellsUnder (origin_of scanner)

-- the place after the last token that was taken, with its closing quote, or the start of the row
abbrev pub place_of : {N : Type 0} → RowScanner N → ℕ
place_of scanner = place_after scanner.text.now scanner.place (take scanner.taken scanner.spans.now)

abbrev pub gap_of : {N : Type 0} → RowScanner N → List ℕ
gap_of scanner = gap_before scanner.text.now (place_of scanner) (drop scanner.taken scanner.spans.now)
