-- What is at a place of a text (RFC 1035 5.1).
use Rattle.std.specs.Prelude.{◌≡◌, ◌<◌, ◌≤◌, ℕ, Bool, true, false, List, [], ◌∷◌, All, None, Some, drop, length, map}
use Rattle.dns_scan.specs.Token.{Token}
use Rattle.dns_text.specs.Rows.{is_led}
use Rattle.dns_text.specs.Tokens.{Next, Row, is_end}
use Rattle.dns_entry_scanner.specs.Gap.{end_in}
use Rattle.dns_entry_scanner.specs.TokenSpan.{IsMarked, token_in}
use Rattle.dns_entry_scanner.specs.declared.token_span.TokenSpan.{TokenSpan}
use Rattle.dns_entry_scanner.specs.declared.row.RowFound.{RowFound}
use Rattle.dns_entry_scanner.specs.declared.row.RowFound.TheVariants.{Row as Found, End, Broken}

-- From a place inside parentheses or outside, the tokens of the spans are the next ones of the row, each where its span says, and the row
-- ends before the next place.
pub data AreNext (text : List ℕ) : Bool → ℕ → List TokenSpan → ℕ → Type 0 where
  ended : {inside : Bool} {place next : ℕ} → Next inside (drop place text) None false (drop next text) → AreNext text inside place [] next
  token : {inside out : Bool} {place next : ℕ} {span : TokenSpan} {others : List TokenSpan}
      → Next inside (drop place text) (Some (token_in text span)) out (drop (end_in text span) text)
      → AreNext text out (end_in text span) others next → AreNext text inside place (span ∷ others) next

-- the tokens of the spans are a row at the place, and the text goes on at the next place
pub record IsRowAt (text : List ℕ) (place : ℕ) (spans : List TokenSpan) (next : ℕ) (blank_led : Bool) : Type 0 where
  pub row : Row false (drop place text) (map (λ span. token_in text span) spans) (drop next text)
  pub placed : AreNext text false place spans next
  pub marked : All (IsMarked text) spans
  pub leads : blank_led ≡ is_led (drop place text)
  pub behind : place < next
  pub within : next ≤ length text

-- there is no row
abbrev pub NoRow : List ℕ → Type 0
NoRow text = (tokens : List Token) (rest : List ℕ) → Row false text tokens rest → ⊥

-- a row, the end of the text, or neither
abbrev pub IsFoundAt : List ℕ → ℕ → List TokenSpan → RowFound → Type 0
IsFoundAt text place spans (Found next blank_led) = IsRowAt text place spans next blank_led
IsFoundAt text place spans End = is_end (drop place text) ≡ true
IsFoundAt text place spans Broken = (is_end (drop place text) ≡ false) × NoRow (drop place text)
