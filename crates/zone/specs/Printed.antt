-- The text that a zone's records are printed as.
use Rattle.std.specs.Prelude.{◌≡◌, ℕ, List, [], ◌∷◌, ◌++◌}
use Rattle.dns_text.specs.Document.{Layout, Piece, document_text}
use Rattle.dns_text.specs.Document.Piece.{Newline}
use Rattle.zone_records.specs.Printed.{IsDocument}
use Rattle.zone_records.specs.Record.{Record}

-- The text is that of the records' documents, in order, each followed by a line end.
pub data IsPrinted (layout : Layout) : List Record → List ℕ → Type 0 where
  none : IsPrinted layout [] []
  more : {r : Record} {records : List Record} {text rest : List ℕ} (document : List Piece) → IsDocument r document
      → IsPrinted layout records rest → text ≡ document_text layout (document ++ Newline ∷ []) ++ rest
      → IsPrinted layout (r ∷ records) text
