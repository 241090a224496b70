use Rattle.std.proofs.Common.{◌∷◌, ◌∙◌, ap}
use Rattle.dns_entry_scanner.specs.RowToken.{token_of}
use Rattle.dns_entry_scanner.proofs.TakenTokens.{gap_taken, left_after}
use Rattle.dns_entry_scanner.proofs.row_scanner.RowScanner.take_token.Goals as goal

pub returns-clause-ok : goal.returns-clause-ok
returns-clause-ok g c =
    let self = c.args.self.now in
    c.in-Some.ensures.some ∙ ap (λ l. token_of c.in-Some.token ∷ l) (left_after self.text.now self.taken self.spans.now)

pub returns-clause-gap : goal.returns-clause-gap
returns-clause-gap g c = let self = c.args.self.now in gap_taken self.text.now self.place self.taken self.spans.now
