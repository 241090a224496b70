use Rattle.std.proofs.Common.{◌≡◌, ◌+◌, IsTrue, drop, arith}
use Rattle.std.proofs.lemmas.Grind.{common_steps}
use Rattle.zone_general.specs.LongerRow.{IsMarked}
use Rattle.zone_general.specs.Seen.{tokens_in}
use Rattle.zone_forms.proofs.ReadBack.{front_found, front_same, front_unmarked, no_truth, same_front}
use Rattle.zone_forms.proofs.presenting.has_same_front.Goals as goal

pub returns-in_default : goal.returns-in_default
returns-in_default c = (λ yes. absurd (no_truth yes), λ is. absurd (c.in_default.ensures.none _ _ _ _ is.has))

pub returns-then-found-kind : goal.returns-then-found-kind
returns-then-found-kind c = (
  λ yes. absurd (no_truth yes),
  λ is.
      let both = front_found c.args.row c.args.other is c.in-Some.ensures.some in
      let index : c.in-Some.found.index ≡ c.args.kind.index = both.0 in
      let rtype : c.in-Some.found.rtype ≡ c.args.kind.rtype = both.1 in
      grind (arith, common_steps),
)

pub returns-else-not-is_marked : goal.returns-else-not-is_marked
returns-else-not-is_marked c = (
  λ yes. let told = c.if-not-is_marked.false in grind (arith, common_steps),
  λ is.
      let told = c.if-not-is_marked.false in
      let marked : IsTrue c.is_marked.result = grind (arith, common_steps) in
      absurd (front_unmarked c.args.row c.args.other is (c.is_marked.ensures.0 marked)),
)

pub returns-then-not-is_marked : goal.returns-then-not-is_marked
returns-then-not-is_marked c = (
  λ same.
      let index : c.in-Some.found.index ≡ c.args.kind.index = grind (arith, common_steps) in
      let rtype : c.in-Some.found.rtype ≡ c.args.kind.rtype = grind (arith, common_steps) in
      let unmarked : IsMarked (drop (c.args.kind.index + 1) (tokens_in c.args.other)) → ⊥ =
      (λ marks. let yes = c.is_marked.ensures.1 marks in grind (arith, common_steps)) in
      same_front c.args.row c.args.other c.in-Some.ensures.some index rtype unmarked (c.have_same_tokens.ensures.0 same),
  λ is. c.have_same_tokens.ensures.1 (front_same c.args.row c.args.other is),
)
