-- Joined documents of whole rows: their rows, and their text.
use Rattle.std.proofs.Common.{◌≡◌, ℕ, suc, Bool, if◌then◌else◌, List, [], ◌∷◌, ◌++◌, refl, sym, ◌∙◌, ap, subst, arith, append_assoc}
use Rattle.dns_scan.specs.Token.{Token}
use Rattle.dns_text.specs.Document.{Layout, Piece, depth, document_text, piece_text, place_behind}
use Rattle.dns_text.specs.Document.Piece.{Comment, Open, Close, Newline}
use Rattle.dns_text.specs.Document.Piece.{Token as token_piece}
use Rattle.dns_text.specs.DocumentRows.{HasRows}
use Rattle.dns_text.specs.DocumentRows.HasRows.{none, token, comment, open', close, inner, newline}
use Rattle.dns_text.proofs.DocumentSplits.{is_inside_at, is_outside_at, text_behind}

-- the rows of both
pub rows_joined : {marks : ℕ} {pieces others : List Piece} {rows more : List (List Token)} → HasRows marks pieces rows → HasRows 0 others more
    → HasRows marks (pieces ++ others) (rows ++ more)
rows_joined none behind = behind
rows_joined (token writes rows) behind = token writes (rows_joined rows behind)
rows_joined (comment no_feed rows) behind = comment no_feed (rows_joined rows behind)
rows_joined (open' rows) behind = open' (rows_joined rows behind)
rows_joined (close rows) behind = close (rows_joined rows behind)
rows_joined (inner rows) behind = inner (rows_joined rows behind)
rows_joined (newline rows) behind = newline (rows_joined rows behind)

-- one piece more
step : (layout : Layout) (line : List Piece) (piece : Piece) (pieces others : List Piece)
    → text_behind layout (place_behind line piece) (pieces ++ others)
    ≡ text_behind layout (place_behind line piece) pieces ++ text_behind layout [] others
    → text_behind layout line (piece ∷ pieces ++ others) ≡ text_behind layout line (piece ∷ pieces) ++ text_behind layout [] others
step layout line piece pieces others is =
    let front = piece_text layout line piece in
    ap (λ (l : List ℕ). front ++ l) is
    ∙ sym (append_assoc front (text_behind layout (place_behind line piece) pieces) (text_behind layout [] others))

-- The text of both: a line begins after whole rows, and also if there are none.
text_joined : {marks : ℕ} {pieces : List Piece} {rows : List (List Token)} → HasRows marks pieces rows → (layout : Layout) (line others : List Piece)
    → depth line ≡ marks → (rows ≡ [] → line ≡ [])
    → text_behind layout line (pieces ++ others) ≡ text_behind layout line pieces ++ text_behind layout [] others
text_joined none layout line others at begins = ap (λ (l : List Piece). text_behind layout l others) (begins refl)
text_joined (token {pieces = pieces} {text = text} writes rows) layout line others at begins =
    step layout line (token_piece text) pieces others (text_joined rows layout (token_piece text ∷ line) others at (λ e. absurd cc))
text_joined (comment {pieces = pieces} {text = text} no_feed rows) layout line others at begins =
    step layout line (Comment text) pieces others (text_joined rows layout (Comment text ∷ line) others at (λ e. absurd cc))
text_joined (open' {pieces = pieces} rows) layout line others at begins =
    step layout line Open pieces others (text_joined rows layout (Open ∷ line) others (ap suc at) (λ e. absurd cc))
text_joined (close {pieces = pieces} rows) layout line others at begins =
    step layout line Close pieces others (text_joined rows layout (Close ∷ line) others (omega arith) (λ e. absurd cc))
text_joined (inner {depth = depth'} {pieces = pieces} rows) layout line others at begins =
    step layout line Newline pieces others
    (subst (λ (b : Bool). text_behind layout (if b then Newline ∷ line else []) (pieces ++ others)
    ≡ text_behind layout (if b then Newline ∷ line else []) pieces ++ text_behind layout [] others) (sym (is_inside_at line depth' at))
    (text_joined rows layout (Newline ∷ line) others at (λ e. absurd cc)))
text_joined (newline {pieces = pieces} rows) layout line others at begins =
    step layout line Newline pieces others
    (subst (λ (b : Bool). text_behind layout (if b then Newline ∷ line else []) (pieces ++ others)
    ≡ text_behind layout (if b then Newline ∷ line else []) pieces ++ text_behind layout [] others) (sym (is_outside_at line at))
    (text_joined rows layout [] others refl (λ e. refl)))

pub document_joined : {pieces : List Piece} {rows : List (List Token)} → HasRows 0 pieces rows → (layout : Layout) (others : List Piece)
    → document_text layout (pieces ++ others) ≡ document_text layout pieces ++ document_text layout others
document_joined rows layout others = text_joined rows layout [] others refl (λ e. refl)
