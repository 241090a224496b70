use Rattle.std.proofs.Common.{◌∷◌, [], ◌++◌, Result, OnOk, subst}
use Rattle.std.specs.declared.fmt.Error.{Error}
use Rattle.dns_text.specs.Document.Piece.{Open, Close}
use Rattle.dns_text.specs.Writing.{Adds}
use Rattle.dns_text.proofs.Writings.{adds_append, on_ok_then}
use Rattle.dns_text.proofs.formatter.Formatter.block.Goals as goal

pub returns : goal.returns
returns g c = λ pieces fills.
    let writes = g.Self.Formatter.writes in
    let P : Result (Unit {0}) Error → Type 0 = λ r. OnOk r (Adds writes c.open_block.new.self pieces c.fill.new.arg2) in
    let filled : Adds writes c.open_block.new.self pieces c.fill.new.arg2 = subst P c.in_ok-fill.was (fills _ _ c.fill.result c.fill.ensures) in
    on_ok_then c.close_block.result _ _
    (λ closed. adds_append writes _ _ _ (Open ∷ []) (pieces ++ Close ∷ []) c.in_ok-open_block.ensures
    (adds_append writes _ _ _ pieces (Close ∷ []) filled closed))
    c.close_block.ensures
