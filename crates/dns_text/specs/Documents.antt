-- The documents of values.
use Rattle.std.specs.Prelude.{ℕ, List, [], ◌∷◌, ◌++◌, map}
use Rattle.dns_name.specs.UnknownText.{unknown_words}
use Rattle.dns_text.specs.Document.{Piece}
use Rattle.dns_text.specs.Document.Piece.{Token, Open, Close}

-- the words of unknown data, each a token (RFC 3597 5)
abbrev pub unknown_tokens : List ℕ → List Piece
unknown_tokens octets = map Token (unknown_words octets)

abbrev pub block_of : List Piece → List Piece
block_of pieces = Open ∷ pieces ++ Close ∷ []
