use Rattle.std.proofs.Common.{◌+◌, ◌<◌, ◌≤◌, [], ◌∷◌, refl, inl, inr, arith}
use Rattle.dns_label.proofs.SymbolFronts.{no_bare, no_escape, no_number, tens_behind, ones_behind, digits_of, fact_on_err, fault_behind_digit, fault_behind_two}
use Rattle.dns_label.proofs.Taken.{rules_item, rules_step, rules_end, rules_weaker}
use Rattle.std.proofs.lemmas.Result.{err_from_is_err_and}
use Rattle.dns_label.proofs.symbol.read_escape.Goals as goal
use Rattle.dns_label.proofs.symbol.read_escape.Goals.{then-first-lt48, else-first-lt48+else-first-lt58+then-first-lt127}
use Rattle.dns_label.specs.Symbol.{IsNoDigit}

pub returns-in_default-clause-err : goal.returns-in_default-clause-err
returns-in_default-clause-err g c = rules_end _ _ c.in_default.ensures.steps no_bare

pub returns-in_err-tens-in-0-to-9-clause-err : goal.returns-in_err-tens-in-0-to-9-clause-err
returns-in_err-tens-in-0-to-9-clause-err g c =
    fact_on_err c.from_residual.result
    (rules_step _ _ c.in-Some.first c.in-Some.ensures.steps
    (rules_weaker _ (λ rest. tens_behind c.in-Some.first rest (omega arith) (omega arith))
    c.in_err-tens-in-0-to-9.ensures.err))

pub returns-in_err-ones-in-0-to-9-clause-err : goal.returns-in_err-ones-in-0-to-9-clause-err
returns-in_err-ones-in-0-to-9-clause-err g c =
    let tens = 48 + c.in_ok-tens-in-0-to-9.tens in
    fact_on_err c.from_residual-in_err-ones-in-0-to-9.result
    (rules_step _ _ c.in-Some.first c.in-Some.ensures.steps
    (rules_step _ _ tens c.in_ok-tens-in-0-to-9.ensures.found.1
    (rules_weaker _ (λ rest. ones_behind c.in-Some.first tens rest (omega arith) (omega arith))
    c.in_err-ones-in-0-to-9.ensures.err)))

pub returns-in-Ok-clause-found : goal.returns-in-Ok-clause-found
returns-in-Ok-clause-found g c =
    let tens = c.in_ok-tens-in-0-to-9.tens in
    let ones = c.in_ok-ones-in-0-to-9.ones in
    let is = digits_of c.in-Some.first tens ones c.in-Ok.number (omega arith) (omega arith)
    c.in_ok-tens-in-0-to-9.ensures.found.0 c.in_ok-ones-in-0-to-9.ensures.found.0 c.in-Ok.ensures.1 in
    let few : c.in-Ok.number < 256 = omega (arith, c.in-Ok.ensures.0, c.in-Ok.ensures.1) in
    (few, (_, refl, rw (← is.0, ← is.1, ← is.2) (_, c.in-Some.ensures.steps, (_, c.in_ok-tens-in-0-to-9.ensures.found.1, (_, c.in_ok-ones-in-0-to-9.ensures.found.1, refl)))))

pub returns-in-Err-clause-err : goal.returns-in-Err-clause-err
returns-in-Err-clause-err g c =
    let tens = c.in_ok-tens-in-0-to-9.tens in
    let ones = c.in_ok-ones-in-0-to-9.ones in
    rules_step _ _ c.in-Some.first c.in-Some.ensures.steps
    (rules_step _ _ (48 + tens) c.in_ok-tens-in-0-to-9.ensures.found.1
    (rules_item _ _ (48 + ones) c.in_ok-ones-in-0-to-9.ensures.found.1
    (λ rest. no_number c.in-Some.first tens ones rest (omega arith) (omega arith)
    c.in_ok-tens-in-0-to-9.ensures.found.0 c.in_ok-ones-in-0-to-9.ensures.found.0 (omega (arith, c.in-Err.ensures)))))

pub returns-in-32-to-126-clause-found : goal.returns-in-32-to-126-clause-found
returns-in-32-to-126-clause-found g c =
    let range : ((32 ≤ c.in-Some.first) × (c.in-Some.first ≤ 126)) × IsNoDigit c.in-Some.first =
    elim c.in-32-to-126-1.branch [
      | then-first-lt48 w ↦ ((omega arith, omega arith), inl (omega arith))
      | else-first-lt48+else-first-lt58+then-first-lt127 w ↦ ((omega arith, omega arith), inr (omega arith))
    ] in
    (range, (_, refl, (_, c.in-Some.ensures.steps, refl)))

pub returns-in_default-first-clause-err : goal.returns-in_default-first-clause-err
returns-in_default-first-clause-err g c =
    rules_item _ _ c.in-Some.first c.in-Some.ensures.steps (λ rest. no_escape c.in-Some.first rest (λ least most. omega arith))

pub returns-in_default-first-2-clause-err : goal.returns-in_default-first-2-clause-err
returns-in_default-first-2-clause-err g c =
    rules_item _ _ c.in-Some.first c.in-Some.ensures.steps (λ rest. no_escape c.in-Some.first rest (λ least most. omega arith))

pub returns-in_err-tens-in-0-to-9-clause-why : goal.returns-in_err-tens-in-0-to-9-clause-why
returns-in_err-tens-in-0-to-9-clause-why g c =
    let p = err_from_is_err_and c.from_residual.result c.from_residual.ensures.1 in
    rw (p.1, p.2)
    (fault_behind_digit g.C.Iterator.next_gives c.args.chars.now c.next.new.self c.in-Some.first c.in_err-tens-in-0-to-9.field-0.0
    c.in-Some.ensures.steps (omega arith) (omega arith) c.in_err-tens-in-0-to-9.ensures.why)

pub returns-in_err-ones-in-0-to-9-clause-why : goal.returns-in_err-ones-in-0-to-9-clause-why
returns-in_err-ones-in-0-to-9-clause-why g c =
    let p = err_from_is_err_and c.from_residual-in_err-ones-in-0-to-9.result c.from_residual-in_err-ones-in-0-to-9.ensures.1 in
    rw (p.1, p.2)
    (fault_behind_two g.C.Iterator.next_gives c.args.chars.now c.next.new.self c.read_digit.new.chars c.in-Some.first
    c.in_ok-tens-in-0-to-9.tens c.in_err-ones-in-0-to-9.field-0.0 c.in-Some.ensures.steps c.in_ok-tens-in-0-to-9.ensures.found.1
    (omega arith) (omega arith) c.in_ok-tens-in-0-to-9.ensures.found.0 c.in_err-ones-in-0-to-9.ensures.why)

pub returns-in-Err-clause-why : goal.returns-in-Err-clause-why
returns-in-Err-clause-why g c =
    let tens = c.in_ok-tens-in-0-to-9.tens in
    let ones = c.in_ok-ones-in-0-to-9.ones in (
      c.in-Some.first ∷ (48 + tens) ∷ (48 + ones) ∷ [],
      _,
      (_, c.in-Some.ensures.steps, (_, c.in_ok-tens-in-0-to-9.ensures.found.1, (_, c.in_ok-ones-in-0-to-9.ensures.found.1, refl))),
      λ rest. no_number c.in-Some.first tens ones rest (omega arith) (omega arith)
          c.in_ok-tens-in-0-to-9.ensures.found.0 c.in_ok-ones-in-0-to-9.ensures.found.0 (omega (arith, c.in-Err.ensures)),
    )

pub returns-in_default-first-clause-why : goal.returns-in_default-first-clause-why
returns-in_default-first-clause-why g c =
    (c.in-Some.first ∷ [], _, (_, c.in-Some.ensures.steps, refl), λ rest. no_escape c.in-Some.first rest (λ least most. omega arith))

pub returns-in_default-first-2-clause-why : goal.returns-in_default-first-2-clause-why
returns-in_default-first-2-clause-why g c =
    (c.in-Some.first ∷ [], _, (_, c.in-Some.ensures.steps, refl), λ rest. no_escape c.in-Some.first rest (λ least most. omega arith))
