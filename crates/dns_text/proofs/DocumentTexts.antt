-- What the text of a document is, told by what is between its pieces.
use Rattle.std.proofs.Common.{◌≡◌, ℕ, true, false, List, [], ◌∷◌, ◌++◌, refl, sym, ◌∙◌, ap, append_assoc, append-nil}
use Rattle.std.specs.List.{AllByRecursion}
use Rattle.dns_text.specs.Document.{Layout, Piece, document_text, is_inside}
use Rattle.dns_text.specs.Document.Layout.{Multiline}
use Rattle.dns_text.specs.Document.Piece.{Comment, Open, Close, Newline}
use Rattle.dns_text.specs.Lines.{IsNoToken, Part, closes, line_pieces, line_text, lines_pieces, lines_text, place_after}
use Rattle.dns_text.proofs.AlikePlaces.{text_behind-append}
use Rattle.dns_text.proofs.BareBlocks.{bare_block}
use Rattle.dns_text.proofs.DocumentSplits.{is_outside_at, text_behind}
use Rattle.dns_text.proofs.InnerBlocks.{held_newline, inner_block, line_end, no_comment}
use Rattle.dns_text.proofs.LineTexts.{line_reads, parts_end}

-- only what follows the same pieces matters
behind : (layout : Layout) (front one other : List Piece)
    → text_behind layout (place_after [] front) one ≡ text_behind layout (place_after [] front) other
    → document_text layout (front ++ one) ≡ document_text layout (front ++ other)
behind layout front one other same =
    text_behind-append layout [] front one ∙ ap (λ l. document_text layout front ++ l) same ∙ sym (text_behind-append layout [] front other)

pub one_line : (layout : Layout) (parts : List Part) → document_text layout (line_pieces parts) ≡ line_text layout parts
one_line layout parts = line_reads layout parts

pub end : (layout : Layout) (line rest : List Piece) → is_inside (place_after [] line) ≡ false
    → document_text layout (line ++ Newline ∷ rest) ≡ document_text layout line ++ 10 ∷ document_text layout rest
end layout line rest out =
    text_behind-append layout [] line (Newline ∷ rest) ∙ ap (λ l. document_text layout line ++ l) (line_end layout (place_after [] line) rest out)

pub many_lines : (layout : Layout) (lines : List (List Part)) → document_text layout (lines_pieces lines) ≡ lines_text layout lines
many_lines layout [] = refl
many_lines layout (parts ∷ lines) =
    ap (document_text layout) (append_assoc (line_pieces parts) (Newline ∷ []) (lines_pieces lines))
    ∙ end layout (line_pieces parts) (lines_pieces lines) (is_outside_at (place_after [] (line_pieces parts)) (parts_end layout [] parts refl))
    ∙ ap (λ l. l ++ 10 ∷ document_text layout (lines_pieces lines)) (one_line layout parts)
    ∙ ap (λ l. line_text layout parts ++ 10 ∷ l) (many_lines layout lines)
    ∙ sym (append_assoc (line_text layout parts) (10 ∷ []) (lines_text layout lines))

pub held : (layout : Layout) (front rest : List Piece) → is_inside (place_after [] front) ≡ true
    → document_text layout (front ++ Newline ∷ rest) ≡ document_text layout (front ++ rest)
held layout front rest inside = behind layout front (Newline ∷ rest) rest (held_newline layout (place_after [] front) rest inside)

pub inner : (layout : Layout) (front block rest : List Piece) → is_inside (place_after [] front) ≡ true → closes 0 block ≡ true
    → document_text layout (front ++ (Open ∷ block ++ Close ∷ rest)) ≡ document_text layout (front ++ (block ++ rest))
inner layout front block rest inside closed =
    behind layout front (Open ∷ block ++ Close ∷ rest) (block ++ rest) (inner_block layout (place_after [] front) block rest inside closed)

pub bare : (layout : Layout) (front block rest : List Piece) → (layout ≡ Multiline → ⊥) → closes 0 block ≡ true
    → AllByRecursion IsNoToken block
    → document_text layout (front ++ (Open ∷ block ++ Close ∷ rest)) ≡ document_text layout (front ++ rest)
bare layout front block rest flat closed none =
    behind layout front (Open ∷ block ++ Close ∷ rest) rest (bare_block layout (place_after [] front) block rest flat closed none)

pub comment : (layout : Layout) (front rest : List Piece) (text : List ℕ) → (layout ≡ Multiline → ⊥)
    → document_text layout (front ++ Comment text ∷ rest) ≡ document_text layout (front ++ rest)
comment layout front rest text flat = behind layout front (Comment text ∷ rest) rest (no_comment layout (place_after [] front) rest text flat)

pub noted : (front : List Piece) (text : List ℕ)
    → document_text Multiline (front ++ Comment text ∷ []) ≡ document_text Multiline front ++ 9 ∷ 59 ∷ 32 ∷ text
noted front text =
    text_behind-append Multiline [] front (Comment text ∷ [])
    ∙ ap (λ l. document_text Multiline front ++ l) (append-nil (9 ∷ 59 ∷ 32 ∷ text))
