use Rattle.std.proofs.Common.{◌≡◌, ◌∙◌, ◌+◌, ◌-◌, suc, ap, sym, arith}
use Rattle.dns_name.specs.ParsedName.{labels_of}
use Rattle.dns_sections.specs.Aliases.{resolved}
use Rattle.dns_sections.proofs.Resolving.{resolved-more, resolved-end, resolved-past, resolved-last}
use Rattle.dns_sections.proofs.aliases.resolved.Goals as goal

pub returns-in_default : goal.returns-in_default
returns-in_default c =
    let all = c.in_default.ensures.none in (
      all.0,
      all.1,
      sym (c.loop.invariant all.0 all.1 ∙ resolved-end all.0 (labels_of c.loop.name) (20 - c.loop.counter) (c.in_default.ensures.first all.0 all.1)),
    )

pub loop-preserved : goal.loop-preserved
loop-preserved c = λ aliases has.
    let one : 20 - c.loop.counter ≡ suc (20 - (c.loop.counter + 1)) = omega arith in
    c.loop.invariant aliases has ∙ ap (λ n. resolved aliases n (labels_of c.loop.name)) one
    ∙ resolved-more aliases (labels_of c.loop.name) (20 - (c.loop.counter + 1)) (labels_of c.in-Some.next) (c.in-Some.ensures.first aliases has)

pub returns-then-is_alias : goal.returns-then-is_alias
returns-then-is_alias c =
    let all = c.is_alias.ensures in
    let none : 20 - c.loop.counter ≡ 0 = omega arith in (
      all.0,
      all.1,
      sym (c.loop.invariant all.0 all.1 ∙ ap (λ n. resolved all.0 n (labels_of c.loop.name)) none
          ∙ resolved-past all.0 (labels_of c.loop.name) (sym all.2 ∙ c.if-is_alias.true)),
    )

pub returns : goal.returns
returns c =
    let all = c.is_alias.ensures in
    let none : 20 - c.loop.counter ≡ 0 = omega arith in (
      all.0,
      all.1,
      sym (c.loop.invariant all.0 all.1 ∙ ap (λ n. resolved all.0 n (labels_of c.loop.name)) none
          ∙ resolved-last all.0 (labels_of c.loop.name) (sym all.2 ∙ c.if-is_alias.false)),
    )
