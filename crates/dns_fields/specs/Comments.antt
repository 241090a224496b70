-- The comments of a row as a value holds them.
use Rattle.std.specs.Prelude.{ℕ, List, [], ◌∷◌, map, Option, Some, None}
use Rattle.std.specs.Borrow.{Bor}
use Rattle.dns_text.specs.Document.{Piece}
use Rattle.dns_text.specs.Document.Piece.{Comment}

abbrev pub text_of : Option (Bor (List ℕ)) → Option (List ℕ)
text_of None = None
text_of (Some comment) = Some comment.now

-- the text of each comment
abbrev pub texts : List (Option (Bor (List ℕ))) → List (Option (List ℕ))
texts comments = map text_of comments

-- the first comment as pieces of a document
abbrev pub first_comment : List (Option (List ℕ)) → List Piece
first_comment [] = []
first_comment (None ∷ comments) = []
first_comment (Some comment ∷ comments) = Comment comment ∷ []
