use Rattle.std.proofs.Common.{ℕ, List, subst}
use Rattle.dns_octets.specs.Parser.{octets_of}
use Rattle.dns_wire.specs.Skip.{Skips}
use Rattle.dns_wire.proofs.Cuts.{skips-uncut}
use Rattle.dns_flat.proofs.name.refusal.Goals as goal

pub returns-in-Ok : goal.returns-in-Ok
returns-in-Ok c =
    let P : List ℕ → Type 0 = λ o. Skips o 254 c.pos.result c.in-Ok.field-0 in
    let Q : ℕ → Type 0 = λ p. Skips (octets_of c.args.parser.now) 254 p c.in-Ok.field-0 in
    let skips = subst Q c.pos.ensures (subst P c.as_slice.ensures c.in-Ok.ensures.ok) in
    (λ is. cc, λ cut. absurd (skips-uncut 254 skips cut))
