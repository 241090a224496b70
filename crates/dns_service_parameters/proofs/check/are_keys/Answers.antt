use Rattle.std.proofs.Common.{◌≡◌, ◌≢◌, ◌≤◌, ◌+◌, ℕ, length, rules, ap, sym, subst, arith}
use Rattle.std.proofs.lemmas.Bool.Decides.{nat_tests}
use Rattle.std.proofs.lemmas.List.{nil_from_length}
use Rattle.dns_service_parameters.proofs.ServiceValues.{HoldsKeys, keys_end, keys_less, keys_more, keys_short, keys_value, value_keys}
use Rattle.dns_service_parameters.proofs.check.are_keys.Goals as goal

pub returns-then-from-least : goal.returns-then-from-least
returns-then-from-least c =
    let found = c.in-Some.ensures.some in (
      λ yes. absurd (cc),
      λ holds.
          let less = keys_less found.0 found.1 (c.loop-key.invariant.0.0 (value_keys holds).0) in
          let above = less.0 in absurd (omega (arith, above)),
    )

pub loop-key-preserved : goal.loop-key-preserved
loop-key-preserved c =
    let found = c.in-Some.ensures.some in
    let small = found.0 in
    let same : c.from-least.result ≡ c.in-Some.key = search rules in
    let above : c.loop-key.least ≤ c.in-Some.key = omega arith in (
      (
        λ whole. subst (λ n. HoldsKeys (n + 1) c.in-Some.behind.now) (sym same) (keys_less found.0 found.1 (c.loop-key.invariant.0.0 whole)).1,
        λ others. c.loop-key.invariant.0.1 (keys_more found.0 found.1 above (subst (λ n. HoldsKeys (n + 1) c.in-Some.behind.now) same others)),
      ),
      omega arith,
    )

pub returns-then-is_empty : goal.returns-then-is_empty
returns-then-is_empty c =
    let zero : length c.loop-key.rest.now ≡ 0 = grind (arith, nat_tests) in
    let octets = c.args.octets.now in (
      λ yes.
          let some : length octets ≢ 0 = grind (arith, nat_tests) in
          keys_value (c.loop-key.invariant.0.1 (keys_end (nil_from_length _ zero))) (λ none. some (ap (length {A = ℕ}) none)),
      λ holds.
          let some : length octets ≢ 0 = λ none. (value_keys holds).1 (nil_from_length octets none) in grind (arith, nat_tests),
    )

pub returns-else-is_empty : goal.returns-else-is_empty
returns-else-is_empty c = (
  λ yes. absurd (cc),
  λ holds.
      let none = keys_short c.in_default.ensures.none (c.loop-key.invariant.0.0 (value_keys holds).0) in
      let zero : length c.loop-key.rest.now ≡ 0 = ap (length {A = ℕ}) none in grind (arith, nat_tests),
)
