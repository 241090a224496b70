use Rattle.std.proofs.Common.{◌≡◌, ◌<◌, length, List, ℕ, [], refl, sym, subst, arith}
use Rattle.std.proofs.lemmas.Grind.{common_steps}
use Rattle.dns_header.specs.Opt.{AreOptions}
use Rattle.dns_header.proofs.Options.{options_more, options_less, none_are, nothing_is}
use Rattle.dns_header.proofs.opt.iter.are_options.Goals as goal

pub returns-in_default : goal.returns-in_default
returns-in_default c =
    let some : 0 < length c.loop-rest.rest.now = grind (arith, common_steps) in (
      λ yes. absurd (let yes = yes in cc),
      λ are. absurd (none_are _ c.in_default.ensures.err some (c.loop-rest.invariant.1 are)),
    )

pub loop-rest-preserved : goal.loop-rest-preserved
loop-rest-preserved c =
    let starts = c.in-Ok.ensures.ok in (
      λ are. c.loop-rest.invariant.0 (options_more _ _ _ starts are),
      λ are. options_less _ _ _ starts (c.loop-rest.invariant.1 are),
    )

pub returns : goal.returns
returns c =
    let none : c.loop-rest.rest.now ≡ [] = grind (arith, common_steps) in (
      λ yes. c.loop-rest.invariant.0 (subst (λ (l : List ℕ). AreOptions l) (sym none) nothing_is),
      λ are. refl,
    )
