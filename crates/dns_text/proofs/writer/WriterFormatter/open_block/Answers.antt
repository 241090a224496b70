use Rattle.std.proofs.Common.{◌≡◌, ◌∷◌, ◌++◌, [], List, ℕ, refl, sym, ◌∙◌, ap, subst, arith}
use Rattle.std.specs.Fmt.{WritesInCalls}
use Rattle.dns_text.specs.Document.{under_multiline}
use Rattle.dns_text.specs.Document.Piece.{Open}
use Rattle.dns_text.specs.Layout.{layout_of}
use Rattle.dns_text.proofs.Places.{at_open, marked, one_more, open_text}
use Rattle.dns_text.proofs.writer.WriterFormatter.open_block.Goals as goal

pub returns : goal.returns
returns g c = λ start front so_far.
    let took = g.W.Write.write_str_gives in
    let none : c.args.self.now.depth ≡ 0 = omega arith in
    let shown = c.in_ok-show_mark.ensures in
    let layout = layout_of c.args.self.now.kind in
    one_more took start c.args.self.now _ front Open shown.same_kind
    (λ line at. marked _ _ (Open ∷ line) _ _ _ _ _ shown.same_kind shown.first_is refl (at_open _ line _ _ _ none at))
    (λ line at.
    let P : List ℕ → Type 0 = λ l. WritesInCalls took c.args.self.now.target l c.show_mark.new.self.target in
    subst P (ap (λ l. under_multiline layout (l ++ 40 ∷ [])) (c.gap-gap.ensures line at) ∙ sym (open_text layout line _ at.depth_is none)) shown.text)
    so_far
