-- Texts of zone files as rows (RFC 1035 5.1).
use Rattle.std.specs.Prelude.{◌≡◌, ℕ, Bool, true, false, List, [], ◌∷◌}
use Rattle.dns_scan.specs.Token.{Token}
use Rattle.dns_text.specs.Tokens.{Row, is_end, is_gap}

-- a row: whether it begins with white space, which says that it is of the owner before it; and its tokens, perhaps none
pub record TokenRow : Type 0 where
  pub blank_led : Bool
  pub tokens : List Token

-- a row that begins with a token, a parenthesis, a comment or its end
abbrev pub unled : List Token → TokenRow
unled tokens = record { blank_led = false; tokens = tokens }

-- the first octet of the text is white space
abbrev pub is_led : List ℕ → Bool
is_led [] = false
is_led (octet ∷ rest) = is_gap octet

-- The text begins with these rows, each with its line feed, and the rest follows.
pub data BeginsWithRows : List ℕ → List TokenRow → List ℕ → Type 0 where
  none : {text : List ℕ} → BeginsWithRows text [] text
  more : {text behind rest : List ℕ} {tokens : List Token} {rows : List TokenRow} → Row false text tokens behind
      → BeginsWithRows behind rows rest → BeginsWithRows text (record { blank_led = is_led text; tokens = tokens } ∷ rows) rest

-- The text is these rows, and ends after the last of them.
pub record IsText (text : List ℕ) (rows : List TokenRow) : Type 0 where
  pub rest : List ℕ
  pub begins : BeginsWithRows text rows rest
  pub ends : is_end rest ≡ true

-- The text is these rows, and no others.
pub record IsTextOnly (text : List ℕ) (rows : List TokenRow) : Type 0 where
  pub is : IsText text rows
  pub only : (others : List TokenRow) → IsText text others → others ≡ rows

-- After these rows the text is broken: it goes on, but with no row. Nothing after that is read.
pub record BreaksAfter (text : List ℕ) (rows : List TokenRow) : Type 0 where
  pub rest : List ℕ
  pub begins : BeginsWithRows text rows rest
  pub goes_on : is_end rest ≡ false
  pub no_row : (tokens : List Token) (behind : List ℕ) → Row false rest tokens behind → ⊥
