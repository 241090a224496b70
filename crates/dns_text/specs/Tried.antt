-- Documents with blocks and comments in less common places, which are printed one by one.
use Rattle.std.specs.Prelude.{List, [], ◌∷◌, codes}
use Rattle.dns_text.specs.Document.{Piece}
use Rattle.dns_text.specs.Document.Piece.{Token, Comment, Open, Close, Newline}

-- a block inside a block, a line end inside one, a token after one, and a line that begins with one
abbrev pub nested : List Piece
nested =
    Newline ∷ Open ∷ Token (codes "b") ∷ Newline ∷ Open ∷ Token (codes "c") ∷ Close ∷ Token (codes "d") ∷ Close
    ∷ Token (codes "e") ∷ Newline ∷ []

-- a block without tokens, and a comment outside of blocks
abbrev pub bare : List Piece
bare = Token (codes "a") ∷ Comment (codes "note") ∷ Newline ∷ Token (codes "b") ∷ Open ∷ Close ∷ Newline ∷ []

-- marks one by one; the last closes no block
abbrev pub marks : List Piece
marks =
    Token (codes "a") ∷ Open ∷ Token (codes "b") ∷ Open ∷ Token (codes "c") ∷ Close ∷ Close ∷ Token (codes "d") ∷ Close
    ∷ Token (codes "e") ∷ Newline ∷ []
