-- Documents while they are written.
use Rattle.std.specs.Prelude.{List, [], ◌∷◌, Result, OnOk}
use Rattle.std.specs.Borrow.{MutBor}
use Rattle.std.specs.Fn.{FnOnceReturns, Once}
use Rattle.std.specs.declared.fmt.Error.{Error}
use Rattle.dns_text.specs.Document.{Piece}

-- the pieces before, the nearest first, once these are written too
abbrev pub written_behind : List Piece → List Piece → List Piece
written_behind front [] = front
written_behind front (piece ∷ pieces) = written_behind (piece ∷ front) pieces

-- Whatever was written since a start, these pieces were written after it.
abbrev pub Adds : {F : Type 0} → (F → List Piece → F → Type 0) → F → List Piece → F → Type 0
Adds {F} writes old pieces new =
    (start : F) (front : List Piece) → writes start front old → writes start (written_behind front pieces) new

-- A call that doesn't fail writes these pieces.
abbrev pub Fills : {F S : Type 0} → (F → List Piece → F → Type 0)
    → Once S (MutBor F × Unit {0}) (Result (Unit {0}) Error × (MutBor F × Unit {0})) → S → List Piece → Type 0
Fills {F} {S} writes calls fill pieces =
    (before behind : MutBor F) (result : Result (Unit {0}) Error) → FnOnceReturns calls fill (before, tt) (result, (behind, tt))
    → OnOk result (Adds writes before.now pieces behind.now)
