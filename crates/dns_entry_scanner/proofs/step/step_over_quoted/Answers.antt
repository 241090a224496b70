use Rattle.std.proofs.Common.{◌+◌, length, ℕ, sym, ap, ◌∙◌, arith}
use Rattle.std.proofs.lemmas.List.{length-drop, take_rest}
use Rattle.dns_entry_scanner.proofs.Steps.{next_quoted, step_end, none_cut, none_given, none_open}
use Rattle.dns_entry_scanner.proofs.step.step_over_quoted.Goals as goal

pub returns-in_err-mark-clause-none : goal.returns-in_err-mark-clause-none
returns-in_err-mark-clause-none c =
    let text = c.args.text.now in
    let over = ap (length {A = ℕ}) (sym (take_rest text c.token_end-end.result.place)) ∙ c.in_err-mark.ensures.cases in
    none_given c.from_residual.ensures
    (none_open c.args.inside text c.args.place _ c.requires.within c.requires.quote c.token_end-end.ensures.run over)

pub returns-then-mark-ne34-clause-none : goal.returns-then-mark-ne34-clause-none
returns-then-mark-ne34-clause-none c =
    let text = c.args.text.now in
    let at_mark = sym (take_rest text c.token_end-end.result.place) ∙ c.in_ok-mark.ensures.cases.0 in
    none_cut c.args.inside text c.args.place _ _ _ c.requires.within c.requires.quote c.token_end-end.ensures.run at_mark c.if-mark-ne34.true

pub returns-clause-found : goal.returns-clause-found
returns-clause-found c =
    let text = c.args.text.now in
    let at_mark = sym (take_rest text c.token_end-end.result.place) ∙ c.in_ok-mark.ensures.cases.0 in
    record {
      next = next_quoted c.args.inside text c.args.place _ _ _ c.requires.within c.requires.quote c.token_end-end.ensures.run at_mark
          c.if-mark-ne34.false;
      placed = ap (λ (n : ℕ). n + 1) (step_end text (c.args.place + 1) c.token_end-end.result.place c.token_end-end.ensures.behind c.token_end-end.ensures.within);
      marked = c.token_end-end.ensures.run.marked;
      within = omega (arith, ap (length {A = ℕ}) at_mark, length-drop c.token_end-end.result.place text);
    }
