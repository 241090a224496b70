-- The document of a typed record, and the line end after it.
use Rattle.std.proofs.Common.{◌≡◌, ◌-◌, ℕ, suc, false, List, [], ◌∷◌, ◌++◌, Option, Some, None, map, refl, sym, ap, ◌∙◌, subst}
use Rattle.std.specs.Prelude.{⊤, nat_lt}
use Rattle.std.specs.List.{AllByRecursion}
use Rattle.dns_text.specs.Document.{Layout, Piece, depth, document_text, is_inside}
use Rattle.dns_text.specs.Document.Piece.{Token, Comment, Open, Close, Newline}
use Rattle.dns_text.specs.Lines.{place_after}
use Rattle.dns_text.proofs.AlikePlaces.{place_after-append}
use Rattle.dns_text.proofs.DocumentTexts.{end}
use Rattle.dns_header.specs.Record.{RecordOf}
use Rattle.dns_header.specs.Shown.{record_document}
use Rattle.dns_rdata.specs.Fields.{Field}
use Rattle.dns_rdata.specs.Shown.{commented, comments_of, field_tokens, row_tokens}
use Rattle.dns_rdata.specs.Data.{Data, typed, unknown_data, number_of, document_of}
use Rattle.dns_rdata.specs.DataOctets.{data_octets}
use Rattle.dns_name.specs.UnknownText.{unknown_words}
use Rattle.zone_records.specs.Held.{record_of}
use Rattle.zone_records.specs.Printed.{IsDocument, ShowsData}
use Rattle.zone_records.specs.Printed.ShowsData.{fields, untold}
use Rattle.zone_records.specs.Record.{Record}
use Rattle.zone_records.specs.Typed.{HasFieldsOfType}
use Rattle.zone_records.proofs.Each.{all_append}
use Rattle.zone.specs.Printing.{AddsRecord}

-- data in fields shows them, and unknown data its octets
data_shown : (rdata : Data) → HasFieldsOfType rdata → ShowsData (number_of rdata) (data_octets rdata) (document_of rdata)
data_shown (typed number row) has = fields (record { row = row; is_row = has; octets_are = refl; is = refl })
data_shown (unknown_data unknown) has = untold has refl

-- the document of a held record
abbrev pub held_document : RecordOf (List (List ℕ)) Data → List Piece
held_document rr = record_document rr.owner rr.ttl rr.class (number_of rr.rdata) (document_of rr.rdata)

-- it is the document of the record
pub document_is : (rr : RecordOf (List (List ℕ)) Data) (r : Record) → record_of rr ≡ r → HasFieldsOfType rr.rdata
    → IsDocument r (held_document rr)
document_is rr r same has =
    subst (λ x. IsDocument x (held_document rr)) same
    (record { data_document = document_of rr.rdata; data_is = data_shown rr.rdata has; is = refl })

-- a piece that is no mark and no line end
abbrev IsInner : Piece → Type 0
IsInner (Token token) = ⊤
IsInner (Comment comment) = ⊤
IsInner Open = ⊥
IsInner Close = ⊥
IsInner Newline = ⊥

same_depth : (line pieces : List Piece) → AllByRecursion IsInner pieces → depth (place_after line pieces) ≡ depth line
same_depth line [] each = refl
same_depth line (Token token ∷ pieces) each = same_depth (Token token ∷ line) pieces each.1
same_depth line (Comment comment ∷ pieces) each = same_depth (Comment comment ∷ line) pieces each.1
same_depth line (Open ∷ pieces) each = absurd each.0
same_depth line (Close ∷ pieces) each = absurd each.0
same_depth line (Newline ∷ pieces) each = absurd each.0

tokens_inner : (texts : List (List ℕ)) → AllByRecursion IsInner (map Token texts)
tokens_inner [] = tt
tokens_inner (text ∷ texts) = (tt, tokens_inner texts)

fields_inner : (comments : List (Option (List ℕ))) (row : List Field) → AllByRecursion IsInner (commented comments row)
fields_inner [] row = tokens_inner (row_tokens row)
fields_inner (comment ∷ comments) [] = tt
fields_inner (None ∷ comments) (field ∷ row) =
    all_append IsInner (map Token (field_tokens field)) (commented comments row) (tokens_inner (field_tokens field)) (fields_inner comments row)
fields_inner (Some comment ∷ comments) (field ∷ row) =
    all_append IsInner (map Token (field_tokens field)) (Comment comment ∷ commented comments row) (tokens_inner (field_tokens field))
    (tt, fields_inner comments row)

-- a block after words ends outside
block_ends : (line pieces : List Piece) → depth line ≡ 0 → AllByRecursion IsInner pieces
    → is_inside (place_after line (Open ∷ pieces ++ Close ∷ [])) ≡ false
block_ends line pieces at each =
    ap is_inside (place_after-append (Open ∷ line) pieces (Close ∷ []))
    ∙ ap (λ n. nat_lt 0 (n - 1)) (same_depth (Open ∷ line) pieces each ∙ ap suc at)

data_ends : (line : List Piece) (rdata : Data) → depth line ≡ 0 → is_inside (place_after line (document_of rdata)) ≡ false
data_ends line (typed number row) at = block_ends line (commented (comments_of number) row) at (fields_inner (comments_of number) row)
data_ends line (unknown_data unknown) at = block_ends line (map Token (unknown_words unknown.octets)) at (tokens_inner (unknown_words unknown.octets))

-- the line end after the document
pub line_ends : (layout : Layout) (rr : RecordOf (List (List ℕ)) Data)
    → document_text layout (held_document rr ++ Newline ∷ []) ≡ document_text layout (held_document rr) ++ 10 ∷ []
line_ends layout rr = end layout (held_document rr) [] (data_ends _ rr.rdata refl)

-- so the record's text is appended if the document's text and a line feed are
pub record_added : (layout : Layout) (rr : RecordOf (List (List ℕ)) Data) (r : Record) (old new : List ℕ) → record_of rr ≡ r
    → HasFieldsOfType rr.rdata → new ≡ old ++ (document_text layout (held_document rr) ++ 10 ∷ []) → AddsRecord layout r old new
record_added layout rr r old new same has added = record {
  document = held_document rr;
  is = document_is rr r same has;
  added = added ∙ ap (λ l. old ++ l) (sym (line_ends layout rr));
}
