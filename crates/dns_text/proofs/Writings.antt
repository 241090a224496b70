-- Pieces one after another.
use Rattle.std.proofs.Common.{◌≡◌, List, [], ◌∷◌, ◌++◌, refl, sym, ◌∙◌, subst, append_assoc, append-nil, Result, Ok, Err, OnOk, IsOk}
use Rattle.std.specs.List.{flat_map}
use Rattle.dns_text.specs.Document.{Layout, Piece, piece_text, placed_from}
use Rattle.dns_text.specs.Writing.{Adds, written_behind}
use Rattle.dns_text.specs.Written.{line_of, text_in_front}

pub written_behind-append : (front pieces others : List Piece)
    → written_behind front (pieces ++ others) ≡ written_behind (written_behind front pieces) others
written_behind-append front [] others = refl
written_behind-append front (piece ∷ pieces) others = written_behind-append (piece ∷ front) pieces others

pub adds_append : {F : Type 0} (writes : F → List Piece → F → Type 0) (a b c : F) (pieces others : List Piece)
    → Adds writes a pieces b → Adds writes b others c → Adds writes a (pieces ++ others) c
adds_append writes a b c pieces others first second = λ start front so_far.
    subst (λ l. writes start l c) (sym (written_behind-append front pieces others)) (second start (written_behind front pieces) (first start front so_far))

pub on_ok_then : {T E : Type 0} (result : Result T E) (P Q : Type 0) → (P → Q) → OnOk result P → OnOk result Q
on_ok_then (Ok value) P Q then fact = then fact
on_ok_then (Err error) P Q then fact = tt

-- the text of a whole document
pub text_in_front-written_behind : (layout : Layout) (front pieces : List Piece)
    → text_in_front layout (written_behind front pieces)
    ≡ text_in_front layout front ++ flat_map (λ placed. piece_text layout placed.front placed.piece) (placed_from (line_of front) pieces)
text_in_front-written_behind layout front [] = sym (append-nil (text_in_front layout front))
text_in_front-written_behind layout front (piece ∷ pieces) =
    text_in_front-written_behind layout (piece ∷ front) pieces
    ∙ append_assoc (text_in_front layout front) (piece_text layout (line_of front) piece) _

pub on_ok_at : {T E : Type 0} (result : Result T E) (P : Type 0) → IsOk result → OnOk result P → P
on_ok_at (Ok value) P ok fact = fact
on_ok_at (Err error) P ok fact = cc
