-- What a writer of documents keeps of the pieces that it wrote.
use Rattle.std.specs.Prelude.{◌≡◌, ℕ, Bool, false, List, [], ◌∷◌, ◌++◌}
use Rattle.std.specs.Fmt.{WritesInCalls}
use Rattle.dns_text.specs.declared.writer.Writer.{Writer}
use Rattle.dns_text.specs.Document.{Layout, Piece, depth, has_data, is_first, piece_text, place_behind, under_multiline}
use Rattle.dns_text.specs.Document.Layout.{Simple, Tabbed, Multiline}
use Rattle.dns_text.specs.Layout.{layout_of}

-- the pieces of the current line, out of all pieces before
abbrev pub line_of : List Piece → List Piece
line_of [] = []
line_of (piece ∷ front) = place_behind (line_of front) piece

-- the text of the pieces before
abbrev pub text_in_front : Layout → List Piece → List ℕ
text_in_front layout [] = []
text_in_front layout (piece ∷ front) = text_in_front layout front ++ piece_text layout (line_of front) piece

-- how many marks are open after these pieces of a line, whether the line begins there, and whether there is data in the
-- block
pub record IsPlace (layout : Layout) (line : List Piece) (open' : ℕ) (first data' : Bool) : Type 0 where
  pub depth_is : open' ≡ depth line
  pub first_is : first ≡ is_first layout line
  pub data_is : data' ≡ has_data line

-- the writer is after these pieces of a line
abbrev pub IsAt : {W : Type 0} → Writer W → List Piece → Type 0
IsAt writer line = IsPlace (layout_of writer.kind) line writer.depth writer.is_first writer.has_data

-- it wrote these pieces since a start
pub record IsWritten {W : Type 0} (took : W → List ℕ → W → Type 0) (start : Writer W) (front : List Piece) (now : Writer W) : Type 0 where
  pub same_kind : now.kind ≡ start.kind
  pub at : IsAt now (line_of front)
  pub text : WritesInCalls took start.target (text_in_front (layout_of start.kind) front) now.target

-- whether the line begins after a mark of a block
abbrev pub first_behind_mark : Layout → Bool → Bool
first_behind_mark Simple first = first
first_behind_mark Tabbed first = first
first_behind_mark Multiline first = false

-- it showed a mark of a block
pub record ShowsMark {W : Type 0} (took : W → List ℕ → W → Type 0) (mark : List ℕ) (old new : Writer W) : Type 0 where
  pub same_kind : new.kind ≡ old.kind
  pub same_depth : new.depth ≡ old.depth
  pub same_data : new.has_data ≡ old.has_data
  pub first_is : new.is_first ≡ first_behind_mark (layout_of old.kind) old.is_first
  pub text : WritesInCalls took old.target (under_multiline (layout_of old.kind) mark) new.target
