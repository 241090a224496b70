-- The text of documents tried on rows that are written out.
use Rattle.std.specs.Prelude.{◌≡◌, ℕ, List, [], ◌∷◌, ◌++◌, codes, refl}
use Rattle.dns_text.specs.Document.{Piece, document_text}
use Rattle.dns_text.specs.Document.Layout.{Simple, Tabbed, Multiline}
use Rattle.dns_text.specs.Document.Piece.{Token, Comment, Open, Close, Newline}
use Rattle.dns_text.specs.Lines.{Noted, Part, lines_pieces, lines_text}
use Rattle.dns_text.specs.Lines.Part.{Word, Block}
use Rattle.dns_text.specs.Tried.{nested, bare, marks}

abbrev pub address : List Piece
address =
    Token (codes "a.") ∷ Token (codes "60") ∷ Token (codes "IN") ∷ Token (codes "A") ∷ Open ∷ Token (codes "1.2.3.4") ∷ Close
    ∷ Newline ∷ []

abbrev pub soa : List Piece
soa =
    Token (codes "a.") ∷ Token (codes "60") ∷ Token (codes "IN") ∷ Token (codes "SOA") ∷ Open ∷ Token (codes "b.")
    ∷ Token (codes "c.") ∷ Token (codes "1") ∷ Comment (codes "serial") ∷ Token (codes "2") ∷ Token (codes "3")
    ∷ Token (codes "4") ∷ Token (codes "5") ∷ Close ∷ Newline ∷ []

pub address_simple : document_text Simple address ≡ codes "a. 60 IN A 1.2.3.4" ++ 10 ∷ []
address_simple = refl

pub address_tabbed : document_text Tabbed address
    ≡ codes "a." ++ 9 ∷ codes "60" ++ 9 ∷ codes "IN" ++ 9 ∷ codes "A" ++ 9 ∷ codes "1.2.3.4" ++ 10 ∷ []
address_tabbed = refl

pub address_multiline : document_text Multiline address
    ≡ codes "a. 60 IN A (" ++ 10 ∷ codes "        1.2.3.4" ++ 10 ∷ codes "        )" ++ 10 ∷ []
address_multiline = refl

pub soa_simple : document_text Simple soa ≡ codes "a. 60 IN SOA b. c. 1 2 3 4 5" ++ 10 ∷ []
soa_simple = refl

pub soa_tabbed : document_text Tabbed soa
    ≡ codes "a." ++ 9 ∷ codes "60" ++ 9 ∷ codes "IN" ++ 9 ∷ codes "SOA" ++ 9 ∷ codes "b. c. 1 2 3 4 5" ++ 10 ∷ []
soa_tabbed = refl

pub soa_multiline : document_text Multiline soa
    ≡ codes "a. 60 IN SOA (" ++ 10 ∷ codes "        b." ++ 10 ∷ codes "        c." ++ 10 ∷ codes "        1" ++ 9 ∷ codes "; serial"
    ++ 10 ∷ codes "        2" ++ 10 ∷ codes "        3" ++ 10 ∷ codes "        4" ++ 10 ∷ codes "        5" ++ 10
    ∷ codes "        )" ++ 10 ∷ []
soa_multiline = refl

pub nested_simple : document_text Simple nested ≡ 10 ∷ codes "b c d e" ++ 10 ∷ []
nested_simple = refl

pub nested_tabbed : document_text Tabbed nested ≡ 10 ∷ codes "b c d" ++ 9 ∷ codes "e" ++ 10 ∷ []
nested_tabbed = refl

pub nested_multiline : document_text Multiline nested
    ≡ 10 ∷ codes "(" ++ 10 ∷ codes "        b" ++ 10 ∷ codes "        c" ++ 10 ∷ codes "        d" ++ 10
    ∷ codes "        ) e" ++ 10 ∷ []
nested_multiline = refl

pub bare_simple : document_text Simple bare ≡ codes "a" ++ 10 ∷ codes "b" ++ 10 ∷ []
bare_simple = refl

pub bare_tabbed : document_text Tabbed bare ≡ codes "a" ++ 10 ∷ codes "b" ++ 10 ∷ []
bare_tabbed = refl

pub bare_multiline : document_text Multiline bare
    ≡ codes "a" ++ 9 ∷ codes "; note" ++ 10 ∷ codes "b (" ++ 10 ∷ codes "        )" ++ 10 ∷ []
bare_multiline = refl

pub marks_simple : document_text Simple marks ≡ codes "a b c d e" ++ 10 ∷ []
marks_simple = refl

pub marks_tabbed : document_text Tabbed marks ≡ codes "a" ++ 9 ∷ codes "b c" ++ 9 ∷ codes "d" ++ 9 ∷ codes "e" ++ 10 ∷ []
marks_tabbed = refl

pub marks_multiline : document_text Multiline marks
    ≡ codes "a (" ++ 10 ∷ codes "        b" ++ 10 ∷ codes "        c" ++ 10 ∷ codes "        ) d e" ++ 10 ∷ []
marks_multiline = refl

-- two rows as lines of words and blocks, one without data, and their text
abbrev pub bare_token : List ℕ → Noted
bare_token token = record { token = token; comments = [] }

abbrev pub rows : List (List Part)
rows =
    (Word (bare_token (codes "a.")) ∷ Word (bare_token (codes "60")) ∷ Word (bare_token (codes "IN")) ∷ Word (bare_token (codes "A"))
    ∷ Block (bare_token (codes "1.2.3.4") ∷ []) ∷ [])
    ∷ (Word (bare_token (codes "b")) ∷ Block [] ∷ Block ((record { token = codes "1"; comments = codes "serial" ∷ codes "x" ∷ [] })
    ∷ bare_token (codes "2") ∷ []) ∷ []) ∷ []

pub rows_begin : lines_pieces rows
    ≡ address ++ Token (codes "b") ∷ Open ∷ Close ∷ Open ∷ Token (codes "1") ∷ Comment (codes "serial") ∷ Comment (codes "x")
    ∷ Token (codes "2") ∷ Close ∷ Newline ∷ []
rows_begin = refl

pub rows_simple : lines_text Simple rows ≡ codes "a. 60 IN A 1.2.3.4" ++ 10 ∷ codes "b 1 2" ++ 10 ∷ []
rows_simple = refl

pub rows_tabbed : lines_text Tabbed rows
    ≡ codes "a." ++ 9 ∷ codes "60" ++ 9 ∷ codes "IN" ++ 9 ∷ codes "A" ++ 9 ∷ codes "1.2.3.4" ++ 10 ∷ codes "b" ++ 9 ∷ codes "1 2" ++ 10 ∷ []
rows_tabbed = refl

pub rows_multiline : lines_text Multiline rows
    ≡ codes "a. 60 IN A (" ++ 10 ∷ codes "        1.2.3.4" ++ 10 ∷ codes "        )" ++ 10 ∷ codes "b (" ++ 10 ∷ codes "        ) ("
    ++ 10 ∷ codes "        1" ++ 9 ∷ codes "; serial" ++ 9 ∷ codes "; x" ++ 10 ∷ codes "        2" ++ 10 ∷ codes "        )" ++ 10 ∷ []
rows_multiline = refl
