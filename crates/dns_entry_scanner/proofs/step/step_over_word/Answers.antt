use Rattle.std.proofs.Common.{arith}
use Rattle.dns_entry_scanner.proofs.Steps.{next_word, none_word, step_end}
use Rattle.dns_entry_scanner.proofs.step.step_over_word.Goals as goal

pub returns-then-end-place-clause-none : goal.returns-then-end-place-clause-none
returns-then-end-place-clause-none c =
    none_word c.args.inside c.args.text.now c.args.place _ c.requires.within c.requires.word c.token_end-end.ensures.run c.if-end-place.true

pub returns-clause-found : goal.returns-clause-found
returns-clause-found c = record {
  next = next_word c.args.inside c.args.text.now c.args.place _ c.requires.within c.token_end-end.ensures.behind c.token_end-end.ensures.within
      c.requires.word c.token_end-end.ensures.run c.if-end-place.false;
  placed = omega (arith, step_end c.args.text.now c.args.place c.token_end-end.result.place c.token_end-end.ensures.behind c.token_end-end.ensures.within);
  marked = c.token_end-end.ensures.run.marked;
  within = c.token_end-end.ensures.within;
}
