use Rattle.std.proofs.Common.{◌≡◌, ◌∷◌, rules, sym, ◌∙◌}
use Rattle.dns_field_texts.proofs.LocationNumerals.{altitude_high, altitude_low}
use Rattle.dns_field_texts.proofs.location.numerals.read_altitude.Goals as goal

pub returns-in_err-depth-clause-none : goal.returns-in_err-depth-clause-none
returns-in_err-depth-clause-none c =
    let written : c.args.text.now ≡ 45 ∷ c.in_ok-first.behind.now = search rules in
    rw c.from_residual-in_err-depth.ensures (λ altitude is. altitude_low written c.in_err-depth.ensures.none is)

pub returns-in_err-height-clause-none : goal.returns-in_err-height-clause-none
returns-in_err-height-clause-none c =
    let written : c.args.text.now ≡ c.in_ok-first.field-0-0.now ∷ c.in_ok-first.behind.now = search rules in
    rw c.from_residual-in_err-height.ensures
    (λ altitude is. altitude_high (λ metres same. let first : c.in_ok-first.field-0-0.now ≡ 45 = (let both = sym written ∙ same in cc) in c.if-first-eq45.false first)
    c.in_err-height.ensures.none is)
