use Rattle.std.proofs.Common.{◌∙◌, sym}
use Rattle.zone_general.proofs.TypeOf.{digit_first}
use Rattle.zone_general.proofs.stated_type.begins_with_digit.Goals as goal

pub returns-in-Some : goal.returns-in-Some
returns-in-Some c digit =
    digit_first c.args.word.now c.in-Some.first.now c.in-Some.field-0-1.now c.in-Some.ensures.cases.0 (sym c.is_ascii_digit.ensures.value ∙ digit)
