use Rattle.std.proofs.Common.{◌≡◌, ◌≢◌, ◌≤◌, ◌<◌, ℕ, ◌∷◌, ◌++◌, length, take, drop, sym, ◌∙◌, ap, subst, arith, length-take}
use Rattle.std.proofs.lemmas.Bool.Decides.{nat_tests}
use Rattle.std.proofs.lemmas.List.{nil_from_length, take-append-drop}
use Rattle.dns_service_parameters.proofs.ServiceValues.{HoldsStrings, strings_end, strings_less, strings_more, strings_value, value_strings}
use Rattle.dns_service_parameters.proofs.check.are_strings.Goals as goal
use Rattle.dns_service_parameters.proofs.check.are_strings.Goals.{then-len-eq0-via-then-len-eq0, then-len-eq0-via-else-len-eq0+then-behind-len}

pub loop-len-preserved : goal.loop-len-preserved
loop-len-preserved c =
    let len = c.in-Some.len in
    let behind = c.in-Some.behind.now in
    let is : c.loop-len.rest.now ≡ len ∷ behind = c.in-Some.ensures.some.1 in
    let n = c.from-len.result in
    let same : n ≡ len = c.from-len.ensures in
    let front : take n behind ++ drop n behind ≡ behind = take-append-drop n behind in
    let whole : c.loop-len.rest.now ≡ len ∷ take n behind ++ drop n behind = is ∙ ap (λ l. len ∷ l) (sym front) in
    let size : length (take n behind) ≡ len = omega (arith, length-take n behind, same) in
    let bound = c.in-Some.ensures.some.0 in
    let few : len ≤ 255 = omega arith in
    let above : 0 < len = omega arith in
    let back : c.split_at.result.1.now ≡ drop n behind = c.split_at.ensures.back in (
      λ holds. subst HoldsStrings (ap (λ k. drop k behind) (sym same) ∙ sym back) (strings_less is (c.loop-len.invariant.0 holds)).2,
      λ holds. c.loop-len.invariant.1 (strings_more (take n behind) whole size above few (subst HoldsStrings back holds)),
    )

pub returns-then-len-eq0 : goal.returns-then-len-eq0
returns-then-len-eq0 c = (
  λ yes. absurd (cc),
  λ holds.
      let is : c.loop-len.rest.now ≡ c.in-Some.len ∷ c.in-Some.behind.now = c.in-Some.ensures.some.1 in
      let less = strings_less is (c.loop-len.invariant.0 (value_strings holds).0) in
      let above = less.0 in
      let enough = less.1 in elim c.then-len-eq0.branch [
        | then-len-eq0-via-then-len-eq0 w ↦ absurd (omega (arith, above))
        | then-len-eq0-via-else-len-eq0+then-behind-len w ↦ absurd (omega (arith, enough))
      ],
)

pub returns : goal.returns
returns c =
    let octets = c.args.octets.now in
    let none = c.in_default.ensures.none in (
      λ yes.
          let some : length octets ≢ 0 = grind (arith, nat_tests) in
          strings_value (c.loop-len.invariant.1 (strings_end none)) (λ none. some (ap (length {A = ℕ}) none)),
      λ holds.
          let some : length octets ≢ 0 = λ none. (value_strings holds).1 (nil_from_length octets none) in grind (arith, nat_tests),
    )
