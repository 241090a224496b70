use Rattle.std.proofs.Common.{◌∙◌, sym}
use Rattle.std.proofs.lemmas.Bool.{eqb-true}
use Rattle.zone_receive.proofs.rules.is_first_soa.Goals as goal

pub returns-then-is_soa : goal.returns-then-is_soa
returns-then-is_soa c =
    let told = c.is_at.ensures in
    let soa = eqb-true c.args.next.now.rtype 6 (sym c.is_soa.ensures ∙ c.if-is_soa.true) in
    (λ same. (soa, told.0 same), λ keeps. told.1 keeps.1)
