use Rattle.std.proofs.Common.{◌∙◌, List, ℕ, Option, Some, ap}
use Rattle.dns_zonefile.specs.Seen.{context_of}
use Rattle.dns_zonefile.proofs.context.Context.take_over_first.Goals as goal

pub returns : goal.returns
returns c = λ name begins.
    c.take_over_head.ensures
    ∙ ap (λ (o : Option (List (List ℕ))). record (context_of c.args.self.now) { owner = o; last_ttl = c.args.last_ttl; class = Some c.args.class })
    (c.set_first.ensures name begins)
