use Rattle.std.proofs.Common.{true, ◌≡◌, List, ℕ, refl, sym, subst, arith}
use Rattle.std.specs.Fmt.{WritesInCalls}
use Rattle.std.proofs.Output.{writes_in_calls_single}
use Rattle.dns_text.specs.Document.Piece.{Newline}
use Rattle.dns_text.specs.Layout.{layout_of}
use Rattle.dns_text.proofs.Places.{at_newline, newline_text, one_more}
use Rattle.dns_text.proofs.writer.WriterFormatter.newline.Goals as goal

pub returns : goal.returns
returns g c = λ start front so_far.
    let took = g.W.Write.write_str_gives in
    let none : c.args.self.now.depth ≡ 0 = omega arith in
    one_more took start c.args.self.now _ front Newline refl (λ line at. at_newline _ line _ _ _ none at)
    (λ line at.
    let P : List ℕ → Type 0 = λ l. WritesInCalls took c.args.self.now.target l c.write_str.new.self in
    subst P (sym (newline_text (layout_of c.args.self.now.kind) line _ at.depth_is none)) (writes_in_calls_single took _ _ _ (c.in_ok-write_str.ensures.ok (refl {a = true}))))
    so_far
