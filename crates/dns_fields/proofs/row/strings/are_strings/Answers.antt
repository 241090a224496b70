use Rattle.std.proofs.Common.{◌≡◌, ◌<◌, length, List, ℕ, [], refl, sym, subst, arith}
use Rattle.std.proofs.lemmas.Grind.{common_steps}
use Rattle.dns_fields.proofs.StringsOf.{AreMade, made_more, made_less, made_strings, none_made, nothing_made, strings_made, strings_some}
use Rattle.dns_fields.proofs.row.strings.are_strings.Goals as goal

pub returns-in_default : goal.returns-in_default
returns-in_default c =
    let some : 0 < length c.loop-rest.rest.now = grind (arith, common_steps) in (
      λ yes. absurd (let yes = yes in cc),
      λ are. absurd (none_made _ c.in_default.ensures.none some (c.loop-rest.invariant.1 (strings_made _ are))),
    )

pub loop-rest-preserved : goal.loop-rest-preserved
loop-rest-preserved c =
    let starts = c.in-Some.ensures.some in (
      λ made. c.loop-rest.invariant.0 (made_more _ _ _ starts made),
      λ made. made_less _ _ _ starts (c.loop-rest.invariant.1 made),
    )

pub returns : goal.returns
returns c =
    let some : 0 < length c.args.octets.now = grind (arith, common_steps) in
    let none : c.loop-rest.rest.now ≡ [] = grind (arith, common_steps) in (
      λ yes. made_strings _ some (c.loop-rest.invariant.0 (subst (λ (l : List ℕ). AreMade l) (sym none) nothing_made)),
      λ are. refl,
    )

pub returns-then-is_empty : goal.returns-then-is_empty
returns-then-is_empty c =
    let none : c.args.octets.now ≡ [] = grind (arith, common_steps) in
    (λ yes. absurd (let yes = yes in cc), λ are. absurd (strings_some _ are none))
