use Rattle.std.proofs.Common.{◌≡◌, ◌∷◌, [], ◌++◌, ℕ, List, subst, arith, rules, sym}
use Rattle.std.proofs.lemmas.Grind.{common_steps}
use Rattle.dns_field_texts.specs.LocationParts.{IsDecimal}
use Rattle.dns_field_texts.specs.Cut.{IsWithout}
use Rattle.dns_field_texts.proofs.LocationNumerals.{if_none, part_point, part_whole}
use Rattle.dns_field_texts.proofs.location.numerals.read_numeral.Goals as goal

pub returns-in_default-clause-none : goal.returns-in_default-clause-none
returns-in_default-clause-none c =
    let same : c.args.text.now ≡ c.split_first.result.0.now = search rules in
    if_none c.read_decimal.result c.read_decimal.ensures.none
    (λ none value is. none value (subst (λ (l : List ℕ). IsDecimal c.args.places c.args.most l [] value) same
    (part_whole (subst (IsWithout 46) (sym same) c.split_first.ensures.front) is)))

pub returns-then-is_empty-clause-none : goal.returns-then-is_empty-clause-none
returns-then-is_empty-clause-none c = λ value is.
    let written : c.args.text.now ≡ c.split_first.result.0.now ++ 46 ∷ c.in-Some.fraction.now = search rules in
    let some = (part_point c.split_first.ensures.front written is).0 in
    grind (arith, common_steps)

pub returns-clause-none : goal.returns-clause-none
returns-clause-none c =
    let written : c.args.text.now ≡ c.split_first.result.0.now ++ 46 ∷ c.in-Some.fraction.now = search rules in
    if_none c.read_decimal-2.result c.read_decimal-2.ensures.none
    (λ none value is. none value (part_point c.split_first.ensures.front written is).1)
