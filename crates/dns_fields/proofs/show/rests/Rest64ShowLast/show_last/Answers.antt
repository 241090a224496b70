use Rattle.std.proofs.Common.{◌<◌, length, rules, arith}
use Rattle.std.proofs.lemmas.Grind.{common_steps}
use Rattle.dns_fields.proofs.ShownTokens.{rest64_pieces}
use Rattle.dns_fields.proofs.show.rests.Rest64ShowLast.show_last.Goals as goal

pub returns : goal.returns
returns g c =
    let some : 0 < length (g.Octs.Octets.list c.args.self.now.0) = grind (arith, common_steps) in
    rw (rest64_pieces (g.Octs.Octets.list c.args.self.now.0) some) (search rules)
