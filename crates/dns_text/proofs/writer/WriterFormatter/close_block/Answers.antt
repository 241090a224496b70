use Rattle.std.proofs.Common.{◌≡◌, ◌∷◌, List, ℕ, sym, subst}
use Rattle.std.specs.Fmt.{WritesInCalls}
use Rattle.dns_text.specs.Document.Piece.{Close}
use Rattle.dns_text.specs.Layout.{layout_of}
use Rattle.dns_text.proofs.Places.{at_close, marked, close_text, one_more}
use Rattle.dns_text.proofs.writer.WriterFormatter.close_block.Goals as goal

pub returns : goal.returns
returns g c = λ start front so_far.
    let took = g.W.Write.write_str_gives in
    let one : c.args.self.now.depth ≡ 1 = c.if-self-ne1.false in
    let shown = c.in_ok-show_mark.ensures in
    let layout = layout_of c.args.self.now.kind in
    one_more took start c.args.self.now _ front Close shown.same_kind
    (λ line at. marked _ _ (Close ∷ line) _ _ _ _ _ shown.same_kind shown.first_is shown.same_data (at_close _ line _ _ _ one at))
    (λ line at.
    let P : List ℕ → Type 0 = λ l. WritesInCalls took c.args.self.now.target l c.show_mark.new.self.target in
    subst P (sym (close_text layout line _ at.depth_is one)) shown.text)
    so_far
