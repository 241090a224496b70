-- What was read of a row. Only contracts inside the crate name it.
use Rattle.std.specs.Prelude.{ℕ, Bool, false, List, ◌++◌, All, drop, map}
use Rattle.dns_scan.specs.Token.{Token}
use Rattle.dns_text.specs.Tokens.{Row}
use Rattle.dns_entry_scanner.specs.RowFound.{AreNext}
use Rattle.dns_entry_scanner.specs.TokenSpan.{IsMarked, token_in}
use Rattle.dns_entry_scanner.specs.declared.token_span.TokenSpan.{TokenSpan}

-- The tokens so far: the row goes on with those from a place inside parentheses or outside, and with no others.
pub record BegunRow (text : List ℕ) (start : ℕ) (spans : List TokenSpan) (inside : Bool) (place : ℕ) : Type 0 where
  pub on : (others : List Token) (rest : List ℕ) → Row inside (drop place text) others rest
      → Row false (drop start text) (map (λ span. token_in text span) spans ++ others) rest
  pub back : (tokens : List Token) (rest : List ℕ) → Row false (drop start text) tokens rest
      → (others : List Token) × Row inside (drop place text) others rest
  pub placed : (others : List TokenSpan) (next : ℕ) → AreNext text inside place others next → AreNext text false start (spans ++ others) next
  pub marked : All (IsMarked text) spans
