-- The lines of what changed between two zones.
use Rattle.std.specs.Prelude.{◌≡◌, ℕ, List, [], ◌∷◌, ◌++◌}
use Rattle.dns_text.specs.Document.{Piece, document_text}
use Rattle.dns_text.specs.Document.Piece.{Newline}
use Rattle.dns_text.specs.Layout.{layout_of}
use Rattle.dns_text.specs.declared.layout.DisplayKind.TheVariants.{Simple}
use Rattle.zone_records.specs.Printed.{IsDocument}
use Rattle.zone_records.specs.Record.{Record}
use Rattle.zone_canonical.specs.Changes.{AreChanges, changed}
use Rattle.zone_canonical.specs.declared.change_list.Change.{Change}
use Rattle.zone_canonical.specs.declared.change_list.Change.TheVariants.{Added, Removed}
use Rattle.zone_tool.specs.Selected.{selected_of}
use Rattle.zone_tool.specs.declared.selection.Selection.{Selection}

-- `-` before what is removed, and `+` before what is added
abbrev pub sign_of : Change → ℕ
sign_of (Removed form) = 45
sign_of (Added form) = 43

-- the line of a change: its sign, and its record's document in the layout of a line for each
abbrev pub line_of : Change → List Piece → List ℕ
line_of change document = sign_of change ∷ document_text (layout_of Simple) (document ++ Newline ∷ [])

-- the text is the lines of the changes, in order
pub data IsChangeText : List Change → List ℕ → Type 0 where
  none : IsChangeText [] []
  more : {change : Change} {changes : List Change} {text rest : List ℕ} (document : List Piece) → IsDocument (changed change) document
      → IsChangeText changes rest → text ≡ line_of change document ++ rest → IsChangeText (change ∷ changes) text

-- The new text is the old one and the line of the change. Only contracts inside the crate name it.
pub record AddsChange (change : Change) (old new : List ℕ) : Type 0 where
  pub document : List Piece
  pub is : IsDocument (changed change) document
  pub line : new ≡ old ++ line_of change document

-- The text is the lines of what changed between the old and the new records that are compared (RFC 4034 6).
pub record IsDifference (selection : Selection) (old new : List Record) (text : List ℕ) : Type 0 where
  pub changes : List Change
  pub are : AreChanges (selected_of selection old) (selected_of selection new) changes
  pub written : IsChangeText changes text
