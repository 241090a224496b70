use Rattle.std.proofs.Common.{◌≡◌, ◌∙◌, ◌++◌, ap, arith, drop, sym}
use Rattle.std.proofs.lemmas.Grind.{common_steps}
use Rattle.zone_forms.proofs.PiecesTaken.{taken_on}
use Rattle.zone_forms.proofs.rewriter.Rewriter.take_in.Goals as goal

pub returns-clause-ok : goal.returns-clause-ok
returns-clause-ok g c =
    let appended : c.extend_from_slice.new.self.items ≡ c.args.self.now.pending.items ++ c.args.piece.now = grind (arith, common_steps) in
    taken_on (c.as_slice-text.ensures.value ∙ appended) c.in_ok-end.ensures.goes c.in_ok-end.ensures.no_row
    (c.remove_front.ensures ∙ ap (drop c.in_ok-end.end.place) (sym c.as_slice-text.ensures.value)) c.feeds_at-self.ensures
