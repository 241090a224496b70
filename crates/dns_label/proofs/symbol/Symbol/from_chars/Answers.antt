use Rattle.std.proofs.Common.{◌≡◌, ℕ, subst, arith}
use Rattle.std.specs.Prelude.{Some}
use Rattle.dns_label.proofs.SymbolFronts.{no_char, reads_err, goes_on}
use Rattle.dns_label.proofs.Taken.{rules_item, rules_step, rules_weaker}
use Rattle.dns_label.proofs.symbol.Symbol.from_chars.Goals as goal

pub returns-in_err-read_escape-in-Some-eq92-clause-symbol :
    goal.returns-in_err-read_escape-in-Some-eq92-clause-symbol
returns-in_err-read_escape-in-Some-eq92-clause-symbol g c =
    let P : ℕ → Type 0 = λ n. g.C.Iterator.next_gives c.args.chars.now (Some n) c.next.new.self in
    let backslash : c.in-Some-eq92.field-0 ≡ 92 = omega arith in
    reads_err g.C.Iterator.next_gives c.args.chars.now c.read_escape.new.chars c.from_residual.result c.from_residual.ensures.0
    (rules_step _ _ 92 (subst P backslash c.in-Some-eq92.ensures.steps) (rules_weaker _ (λ rest. goes_on 92 rest) c.in_err-read_escape-in-Some-eq92.ensures.err))

pub returns-in-Some-clause-symbol : goal.returns-in-Some-clause-symbol
returns-in-Some-clause-symbol g c =
    rules_item _ _ c.in-Some.field-0 c.in-Some.ensures.steps (λ rest on. no_char c.in-Some.field-0 rest (λ least most. omega arith) (goes_on c.in-Some.field-0 rest on))

pub returns-in-Some-2-clause-symbol : goal.returns-in-Some-2-clause-symbol
returns-in-Some-2-clause-symbol g c =
    rules_item _ _ c.in-Some.field-0 c.in-Some.ensures.steps (λ rest on. no_char c.in-Some.field-0 rest (λ least most. omega arith) (goes_on c.in-Some.field-0 rest on))
