-- Records that are printed one after another.
use Rattle.std.specs.Prelude.{◌≡◌, ℕ, List, [], ◌∷◌, ◌++◌}
use Rattle.dns_text.specs.Document.{Layout, Piece, document_text}
use Rattle.dns_text.specs.Document.Piece.{Newline}
use Rattle.zone_records.specs.Printed.{IsDocument}
use Rattle.zone_records.specs.Record.{Record}

-- the new text is the old one, the record's document and a line end
pub record AddsRecord (layout : Layout) (r : Record) (old new : List ℕ) : Type 0 where
  pub document : List Piece
  pub is : IsDocument r document
  pub added : new ≡ old ++ document_text layout (document ++ Newline ∷ [])
