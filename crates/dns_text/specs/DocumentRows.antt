-- The rows of a document.
use Rattle.std.specs.Prelude.{◌≡◌, ◌<◌, ℕ, suc, Bool, true, false, List, [], ◌∷◌, ◌++◌, length}
use Rattle.std.specs.List.{AllByRecursion, flat_map}
use Rattle.dns_label.specs.declared.symbol.Symbol.{Symbol}
use Rattle.dns_label.specs.Symbol.{spelled}
use Rattle.dns_text.specs.Document.{Piece}
use Rattle.dns_text.specs.Document.Piece.{Comment, Open, Close, Newline}
use Rattle.dns_text.specs.Document.Piece.{Token as token_piece}
use Rattle.dns_scan.specs.Token.{Token}
use Rattle.dns_text.specs.Tokens.{IsIn, has_feed}

-- symbols that may be in a quoted token, or in an unquoted one
pub record AreSymbols (quoted : Bool) (text : List ℕ) : Type 0 where
  pub symbols : List Symbol
  pub each : AllByRecursion (IsIn quoted) symbols
  pub written : text ≡ flat_map spelled symbols

-- how a token is written: a quoted one between its quotes, an unquoted one as it is
pub data WritesToken : Token → List ℕ → Type 0 where
  quoted : {text : List ℕ} → AreSymbols true text → WritesToken (record { quoted = true; text = text }) (34 ∷ text ++ 34 ∷ [])
  unquoted : {text : List ℕ} → AreSymbols false text → 0 < length text → WritesToken (record { quoted = false; text = text }) text

-- The tokens of a document's rows, if that number of marks is open. A line end follows every mark and every token, a
-- closing mark follows each opening one, and comments are in blocks only.
pub data HasRows : ℕ → List Piece → List (List Token) → Type 0 where
  none : HasRows 0 [] []
  token : {depth : ℕ} {pieces : List Piece} {row : List Token} {rows : List (List Token)} {found : Token} {text : List ℕ}
      → WritesToken found text → HasRows depth pieces (row ∷ rows) → HasRows depth (token_piece text ∷ pieces) ((found ∷ row) ∷ rows)
  comment : {depth : ℕ} {pieces : List Piece} {row : List Token} {rows : List (List Token)} {text : List ℕ} → has_feed text ≡ false
      → HasRows (suc depth) pieces (row ∷ rows) → HasRows (suc depth) (Comment text ∷ pieces) (row ∷ rows)
  open' : {depth : ℕ} {pieces : List Piece} {row : List Token} {rows : List (List Token)} → HasRows (suc depth) pieces (row ∷ rows)
      → HasRows depth (Open ∷ pieces) (row ∷ rows)
  close : {depth : ℕ} {pieces : List Piece} {row : List Token} {rows : List (List Token)} → HasRows depth pieces (row ∷ rows)
      → HasRows (suc depth) (Close ∷ pieces) (row ∷ rows)
  inner : {depth : ℕ} {pieces : List Piece} {row : List Token} {rows : List (List Token)} → HasRows (suc depth) pieces (row ∷ rows)
      → HasRows (suc depth) (Newline ∷ pieces) (row ∷ rows)
  newline : {pieces : List Piece} {rows : List (List Token)} → HasRows 0 pieces rows → HasRows 0 (Newline ∷ pieces) ([] ∷ rows)
