use Rattle.std.proofs.Common.{true, ◌≡◌, ◌∷◌, [], List, ℕ, refl, sym, subst, rules}
use Rattle.std.specs.Fmt.{WritesInCalls}
use Rattle.std.proofs.Output.{if_some_weaken, writes_in_calls_append, writes_in_calls_single}
use Rattle.dns_text.specs.Document.Layout.{Multiline}
use Rattle.dns_text.specs.Document.Piece.{Comment}
use Rattle.dns_text.specs.Layout.{layout_of}
use Rattle.dns_text.proofs.Places.{at_comment, comment_text, one_more}
use Rattle.dns_text.proofs.writer.Writer.show_comment.Goals as goal

pub returns : goal.returns
returns g c =
    let is : layout_of c.args.self.now.kind ≡ Multiline = search rules in
    let took = g.W.Write.write_str_gives in
    if_some_weaken (g.T.Display.output c.args.comment.now) _ _
    (λ text written start front so_far.
    one_more took start c.args.self.now _ front (Comment text) refl (λ line at. at_comment _ line _ _ _ text is at)
    (λ line at.
    let P : List ℕ → Type 0 = λ l. WritesInCalls took c.args.self.now.target l c.write.new.self in
    subst P (sym (comment_text _ line text is))
    (writes_in_calls_append took _ (9 ∷ 59 ∷ 32 ∷ []) _ text _ (writes_in_calls_single took _ _ _ (c.in_ok-write_str.ensures.ok (refl {a = true}))) written))
    so_far)
    c.in_ok-write.ensures.writes
