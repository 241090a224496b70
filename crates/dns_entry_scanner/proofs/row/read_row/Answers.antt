use Rattle.std.proofs.Common.{◌++◌, ◌∷◌, ◌∙◌, [], ap, arith, drop, refl}
use Rattle.std.proofs.lemmas.List.{drop_min, length-drop}
use Rattle.dns_entry_scanner.specs.declared.token_span.TokenSpan.{TokenSpan}
use Rattle.dns_entry_scanner.proofs.Rows.{held_broken, held_last, held_more, held_none, next_shorter, none_found}
use Rattle.dns_entry_scanner.proofs.row.read_row.Goals as goal

pub read_front-requires : goal.read_front-requires
read_front-requires c = omega (arith, c.min.ensures)

pub returns-then-front : goal.returns-then-front
returns-then-front c =
    let text = c.args.text.now in
    c.row_before.ensures c.read_front.new.tokens.items
    (c.in_ok-front.ensures.whole c.if-front.true c.args.place
    (held_none text c.args.place c.min.result c.clear.new.self.items c.clear.ensures.items
    (ap (λ n. drop n text) c.min.ensures ∙ drop_min c.args.place text)))

pub loop-step-init : goal.loop-step-init
loop-step-init c =
    let text = c.args.text.now in record {
      within = c.in_ok-front.ensures.within;
      held =
          c.in_ok-front.ensures.begun c.if-front.false c.args.place
          (held_none text c.args.place c.min.result c.clear.new.self.items c.clear.ensures.items
          (ap (λ n. drop n text) c.min.ensures ∙ drop_min c.args.place text));
    }

pub end_or_broken-requires : goal.end_or_broken-requires
end_or_broken-requires c = held_broken c.loop-step.invariant.held c.in_default.ensures.none

pub returns-in_default : goal.returns-in_default
returns-in_default c = c.end_or_broken.ensures _

pub returns-in_default-found : goal.returns-in_default-found
returns-in_default-found c =
    let ends = rw (none_found c.in-Some.step.found c.in_default-found.not-Some) at c.in-Some.ensures.found.next in
    c.row_before-in_default-found.ensures c.loop-step.tokens.items
    (held_last c.loop-step.invariant.held ends c.in-Some.ensures.found.within refl)

pub loop-step-smaller : goal.loop-step-smaller
loop-step-smaller c =
    let text = c.args.text.now in
    omega (
      arith,
      next_shorter c.in-Some.ensures.found.next,
      length-drop c.in-Some.step.place text,
      length-drop c.loop-step.at text,
      c.in-Some.ensures.found.within,
      c.loop-step.invariant.within,
    )

pub loop-step-preserved : goal.loop-step-preserved
loop-step-preserved c =
    let next = rw c.in-Some-found.is at c.in-Some.ensures.found.next in
    let placed = rw c.in-Some-found.is at c.in-Some.ensures.found.placed in
    let marked = rw c.in-Some-found.is at c.in-Some.ensures.found.marked in record {
      within = c.in-Some.ensures.found.within;
      held = held_more c.in-Some-found.token c.loop-step.invariant.held next placed marked
          (c.in_ok-push.ensures.items ∙ ap (λ (s : TokenSpan). c.loop-step.tokens.items ++ s ∷ []) c.by_fields.ensures);
    }
