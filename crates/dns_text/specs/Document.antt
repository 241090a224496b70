-- Documents: what is printed, before a layout is chosen, and the text of a document under each layout. A document is a
-- list of pieces. How a piece is written depends on its place only: the list of the pieces before it on its line.
use Rattle.std.specs.Prelude.{◌-◌, ◌==◌, ℕ, suc, Bool, true, false, List, [], ◌∷◌, ◌++◌, nat_lt, if◌then◌else◌}
use Rattle.std.specs.List.{flat_map}

pub data Layout : Type 0 where
  -- one space between any two tokens
  Simple : Layout
  -- a tab between any two tokens, but one space between those of a block
  Tabbed : Layout
  -- each token of a block on a line of its own, and the block in parentheses
  Multiline : Layout

-- The tokens between the two marks of a block are data. A block inside a block is none of its own.
pub data Piece : Type 0 where
  Token : List ℕ → Piece
  Comment : List ℕ → Piece
  Open : Piece
  Close : Piece
  Newline : Piece

-- how many marks are open after these pieces of a line, the nearest piece first
abbrev pub depth : List Piece → ℕ
depth [] = 0
depth (Token token ∷ front) = depth front
depth (Comment comment ∷ front) = depth front
depth (Open ∷ front) = suc (depth front)
depth (Close ∷ front) = depth front - 1
depth (Newline ∷ front) = depth front

-- a place inside a block
abbrev pub is_inside : List Piece → Bool
is_inside front = nat_lt 0 (depth front)

-- whether the open block has a token already
abbrev pub has_data : List Piece → Bool
has_data [] = false
has_data (Token token ∷ front) = true
has_data (Comment comment ∷ front) = has_data front
has_data (Open ∷ front) = if is_inside front then has_data front else false
has_data (Close ∷ front) = has_data front
has_data (Newline ∷ front) = has_data front

-- whether a piece is shown at a place of a line: comments and the marks of a block under Multiline only
abbrev pub is_seen : Layout → List Piece → Piece → Bool
is_seen layout front (Token token) = true
is_seen Multiline front (Comment comment) = true
is_seen Multiline front Open = if is_inside front then false else true
is_seen Multiline front Close = depth front == 1
is_seen layout front piece = false

-- whether the line begins here: nothing is shown before
abbrev pub is_first : Layout → List Piece → Bool
is_first layout [] = true
is_first layout (piece ∷ front) = if is_seen layout front piece then false else is_first layout front

-- a line of its own, indented by eight spaces
abbrev pub own_line : List ℕ
own_line = 10 ∷ 32 ∷ 32 ∷ 32 ∷ 32 ∷ 32 ∷ 32 ∷ 32 ∷ 32 ∷ []

-- what is before a token or a block outside of blocks, unless the line begins there
abbrev pub outer_gap : Layout → List ℕ
outer_gap Simple = 32 ∷ []
outer_gap Tabbed = 9 ∷ []
outer_gap Multiline = 32 ∷ []

-- what is before a token in a block
abbrev pub data_gap : Layout → List Piece → List ℕ
data_gap Simple front = 32 ∷ []
data_gap Tabbed front = if has_data front then 32 ∷ [] else 9 ∷ []
data_gap Multiline front = own_line

abbrev pub gap : Layout → List Piece → List ℕ
gap layout front =
    if is_first layout front then [] else (if is_inside front then data_gap layout front else outer_gap layout)

abbrev pub under_multiline : Layout → List ℕ → List ℕ
under_multiline Simple text = []
under_multiline Tabbed text = []
under_multiline Multiline text = text

-- how a piece is written at a place. A comment follows a tab, a semicolon and a space.
abbrev pub piece_text : Layout → List Piece → Piece → List ℕ
piece_text layout front (Token token) = gap layout front ++ token
piece_text layout front (Comment comment) = under_multiline layout (9 ∷ 59 ∷ 32 ∷ comment)
piece_text layout front Open = if is_inside front then [] else under_multiline layout (gap layout front ++ 40 ∷ [])
piece_text layout front Close = if depth front == 1 then under_multiline layout (own_line ++ 41 ∷ []) else []
piece_text layout front Newline = if is_inside front then [] else 10 ∷ []

-- the place after a piece: a line ends outside of blocks only
abbrev pub place_behind : List Piece → Piece → List Piece
place_behind front (Token token) = Token token ∷ front
place_behind front (Comment comment) = Comment comment ∷ front
place_behind front Open = Open ∷ front
place_behind front Close = Close ∷ front
place_behind front Newline = if is_inside front then Newline ∷ front else []

-- a piece with its place
pub record Placed : Type 0 where
  pub front : List Piece
  pub piece : Piece

-- the pieces that follow a place, each with its own
abbrev pub placed_from : List Piece → List Piece → List Placed
placed_from front [] = []
placed_from front (piece ∷ pieces) =
    record { front = front; piece = piece } ∷ placed_from (place_behind front piece) pieces

-- the text of a document
abbrev pub document_text : Layout → List Piece → List ℕ
document_text layout document = flat_map (λ placed. piece_text layout placed.front placed.piece) (placed_from [] document)
