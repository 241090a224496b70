use Rattle.std.proofs.Common.{true, List, ℕ, ◌++◌, refl, subst}
use Rattle.std.specs.Fmt.{WritesInCalls}
use Rattle.std.proofs.Output.{if_some_weaken, writes_in_calls_append, writes_in_calls_single}
use Rattle.dns_text.specs.Document.Piece.{Token}
use Rattle.dns_text.proofs.Places.{at_token, one_more}
use Rattle.dns_text.proofs.writer.WriterFormatter.write_token.Goals as goal

pub returns : goal.returns
returns g c =
    let took = g.W.Write.write_str_gives in
    if_some_weaken (g.T.Display.output c.args.token) _ _
    (λ text written start front so_far.
    one_more took start c.args.self.now _ front (Token text) refl (λ line at. at_token _ line _ _ _ text at)
    (λ line at.
    let P : List ℕ → Type 0 = λ l. WritesInCalls took c.args.self.now.target (l ++ text) c.write.new.self in
    subst P (c.gap-gap.ensures line at)
    (writes_in_calls_append took _ _ _ text _ (writes_in_calls_single took _ _ _ (c.in_ok-write_str.ensures.ok (refl {a = true}))) written))
    so_far)
    c.in_ok-write.ensures.writes
