use Rattle.std.proofs.Common.{◌≡◌, ◌≤◌, ◌+◌, ℕ, true, length, rules, ap, sym, subst, arith}
use Rattle.std.proofs.lemmas.Bool.Decides.{nat_tests}
use Rattle.std.proofs.lemmas.List.{nil_from_length}
use Rattle.dns_service_parameters.specs.declared.form.Form.{Form}
use Rattle.dns_service_parameters.specs.ServiceParts.{HoldsOrdered, HoldsValue}
use Rattle.dns_service_parameters.proofs.ServiceParts.{ordered_end, ordered_less, ordered_more, ordered_none}
use Rattle.dns_service_parameters.proofs.check.are_ordered.Goals as goal
use Rattle.dns_service_parameters.proofs.check.are_ordered.Goals.{then-from-least-via-then-from-least, then-from-least-via-else-from-least+then-not-is_value}

pub returns-then-from-least : goal.returns-then-from-least
returns-then-from-least c = (
  λ yes. absurd (cc),
  λ holds.
      let less = ordered_less c.in-Some.ensures.some (c.loop-key.invariant.0.0 holds) in
      let above = less.0 in elim c.then-from-least.branch [
        | then-from-least-via-then-from-least w ↦ absurd (omega (arith, above))
        | then-from-least-via-else-from-least+then-not-is_value w ↦
            let fits : HoldsValue w.form_at.result c.in-Some.value.now = subst (λ (f : Form). HoldsValue f c.in-Some.value.now) (sym w.form_at.ensures) less.1 in
            let yes : w.is_value.result ≡ true = w.is_value.ensures.1 fits in absurd (cc)
      ],
)

pub loop-key-preserved : goal.loop-key-preserved
loop-key-preserved c =
    let part = c.in-Some.ensures.some in
    let small = part.small in
    let same : c.from-least.result ≡ c.in-Some.key = search rules in
    let above : c.loop-key.least ≤ c.in-Some.key = omega arith in
    let yes : c.is_value.result ≡ true = search rules in
    let fits = subst (λ (f : Form). HoldsValue f c.in-Some.value.now) c.form_at.ensures (c.is_value.ensures.0 yes) in (
      (
        λ whole. subst (λ n. HoldsOrdered (n + 1) c.in-Some.behind.now) (sym same) (ordered_less part (c.loop-key.invariant.0.0 whole)).2,
        λ others. c.loop-key.invariant.0.1 (ordered_more part above fits (subst (λ n. HoldsOrdered (n + 1) c.in-Some.behind.now) same others)),
      ),
      omega arith,
    )

pub returns : goal.returns
returns c =
    let rest = c.loop-key.rest.now in (
      λ yes. let zero : length rest ≡ 0 = grind (arith, nat_tests) in c.loop-key.invariant.0.1 (ordered_end (nil_from_length rest zero)),
      λ holds.
          let none = ordered_none c.in_default.ensures.none (c.loop-key.invariant.0.0 holds) in
          let zero : length rest ≡ 0 = ap (length {A = ℕ}) none in grind (arith, nat_tests),
    )
