use Rattle.std.proofs.Common.{arith}
use Rattle.dns_label.proofs.SymbolFronts.{no_digit, no_digits}
use Rattle.dns_label.proofs.Taken.{rules_item, rules_end}
use Rattle.dns_label.proofs.symbol.read_digit.Goals as goal

pub returns-in-Some-clause-err : goal.returns-in-Some-clause-err
returns-in-Some-clause-err g c =
    rules_item _ _ c.in-Some.field-0 c.in-Some.ensures.steps (λ rest. no_digit c.in-Some.field-0 rest (λ least most. omega arith))

pub returns-in-Some-2-clause-err : goal.returns-in-Some-2-clause-err
returns-in-Some-2-clause-err g c =
    rules_item _ _ c.in-Some.field-0 c.in-Some.ensures.steps (λ rest. no_digit c.in-Some.field-0 rest (λ least most. omega arith))

pub returns-in-None-clause-err : goal.returns-in-None-clause-err
returns-in-None-clause-err g c = rules_end _ _ c.in-None.ensures.steps no_digits
