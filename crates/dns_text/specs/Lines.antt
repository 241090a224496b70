-- Documents line by line: their text, told by what is between their tokens.
use Rattle.std.specs.Prelude.{◌≡◌, ◌==◌, ℕ, zero, suc, Bool, false, List, [], ◌∷◌, ◌++◌, map}
use Rattle.std.specs.List.{flat_map, join_with_byte}
use Rattle.dns_text.specs.Document.{Layout, Piece, own_line, place_behind}
use Rattle.dns_text.specs.Document.Layout.{Simple, Tabbed, Multiline}
use Rattle.dns_text.specs.Document.Piece.{Token, Comment, Open, Close, Newline}

-- a token, and the comments after it
pub record Noted : Type 0 where
  pub token : List ℕ
  pub comments : List (List ℕ)

-- what is on a line, one part after another
pub data Part : Type 0 where
  Word : Noted → Part
  -- the tokens of a block are data
  Block : List Noted → Part

abbrev pub noted_pieces : Noted → List Piece
noted_pieces noted = Token noted.token ∷ map Comment noted.comments

abbrev pub part_pieces : Part → List Piece
part_pieces (Word noted) = noted_pieces noted
part_pieces (Block notes) = Open ∷ flat_map noted_pieces notes ++ Close ∷ []

-- the document of a line, without its end
abbrev pub line_pieces : List Part → List Piece
line_pieces parts = flat_map part_pieces parts

-- A token is written as it is, and under Multiline its comments follow it, each after a tab, a semicolon and a space.
abbrev pub noted_text : Layout → Noted → List ℕ
noted_text Simple noted = noted.token
noted_text Tabbed noted = noted.token
noted_text Multiline noted = noted.token ++ flat_map (λ comment. 9 ∷ 59 ∷ 32 ∷ comment) noted.comments

-- several texts as one, with a space between any two
abbrev pub together : List (List ℕ) → List (List ℕ)
together [] = []
together (text ∷ texts) = join_with_byte 32 (text ∷ texts) ∷ []

-- The texts of a part on its line: a word is one; of a block, each token is one under Simple, and all of them together
-- under Tabbed; and under Multiline it is parentheses, with each token on a line of its own, and the closing one on its
-- own too.
abbrev pub part_texts : Layout → Part → List (List ℕ)
part_texts layout (Word noted) = noted_text layout noted ∷ []
part_texts Simple (Block notes) = map (noted_text Simple) notes
part_texts Tabbed (Block notes) = together (map (noted_text Tabbed) notes)
part_texts Multiline (Block notes) =
    (40 ∷ flat_map (λ noted. own_line ++ noted_text Multiline noted) notes ++ own_line ++ 41 ∷ []) ∷ []

-- what is between any two of these texts: a tab under Tabbed, else a space
abbrev pub separator : Layout → ℕ
separator Simple = 32
separator Tabbed = 9
separator Multiline = 32

-- the text of a line, without its end
abbrev pub line_text : Layout → List Part → List ℕ
line_text layout parts = join_with_byte (separator layout) (flat_map (part_texts layout) parts)

-- lines, each with its end, and their text
abbrev pub lines_pieces : List (List Part) → List Piece
lines_pieces lines = flat_map (λ parts. line_pieces parts ++ Newline ∷ []) lines

abbrev pub lines_text : Layout → List (List Part) → List ℕ
lines_text layout lines = flat_map (λ parts. line_text layout parts ++ 10 ∷ []) lines

-- the place after these pieces
abbrev pub place_after : List Piece → List Piece → List Piece
place_after front [] = front
place_after front (piece ∷ pieces) = place_after (place_behind front piece) pieces

-- If that number of marks is open, the pieces close these and their own, and no other.
abbrev pub closes : ℕ → List Piece → Bool
closes n [] = n == 0
closes n (Token token ∷ pieces) = closes n pieces
closes n (Comment comment ∷ pieces) = closes n pieces
closes n (Open ∷ pieces) = closes (suc n) pieces
closes zero (Close ∷ pieces) = false
closes (suc n) (Close ∷ pieces) = closes n pieces
closes n (Newline ∷ pieces) = closes n pieces

abbrev pub IsNoToken : Piece → Type 0
IsNoToken piece = (token : List ℕ) → piece ≡ Token token → ⊥
