use Rattle.std.proofs.Common.{◌≡◌, ◌++◌, ◌∷◌, [], arith, ap, rules, sym, ◌∙◌}
use Rattle.std.proofs.lemmas.Option.{IfSome_then}
use Rattle.dns_field_texts.proofs.LocationNumerals.{bare_length, if_none, last_one, length_bare, length_unit, unit_length}
use Rattle.dns_field_texts.proofs.location.numerals.read_metres.Goals as goal

pub returns-then-last-eq109-clause-none : goal.returns-then-last-eq109-clause-none
returns-then-last-eq109-clause-none c =
    let written : c.args.text.now ≡ c.in_ok-last.numeral.now ++ 109 ∷ [] = search rules in
    if_none c.read_numeral.result c.read_numeral.ensures.none (λ none value is. none value (length_unit written is))

pub returns-clause-none : goal.returns-clause-none
returns-clause-none c =
    let written : c.args.text.now ≡ c.in_ok-last.numeral.now ++ c.in_ok-last.field-0-0.now ∷ [] = search rules in
    if_none c.read_numeral-2.result c.read_numeral-2.ensures.none
    (λ none value is. none value (length_bare (λ numeral same. c.if-last-eq109.false (last_one _ numeral _ 109 (sym written ∙ same)).1) is))
