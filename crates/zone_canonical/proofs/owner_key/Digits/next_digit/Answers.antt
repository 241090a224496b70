use Rattle.std.proofs.Common.{◌∙◌, arith}
use Rattle.zone_canonical.proofs.KeyDigits.{digit_inside, digit_between, no_octets}
use Rattle.zone_canonical.proofs.owner_key.Digits.next_digit.Goals as goal

pub returns-in-Some-clause-digit : goal.returns-in-Some-clause-digit
returns-in-Some-clause-digit c = λ left.
    digit_inside c.in-Some.octet.now c.digit_of.result left _ c.in-Some.rest.now _ c.in-Some.ensures.cases.0 c.digit_of.ensures.digit c.digit_of.ensures.within

pub returns-in-None-clause-digit : goal.returns-in-None-clause-digit
returns-in-None-clause-digit c = λ left.
    digit_between left c.args.self.now.label.now c.last_label-self.result.now c.args.self.now.labels c.last_label-self.new.labels
    (no_octets c.args.self.now.label.now c.in-None.ensures.cases) c.last_label-self.ensures
    ∙ omega arith
