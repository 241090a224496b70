use Rattle.std.proofs.Common.{◌≡◌, ◌∙◌, ℕ, subst, refl, arith}
use Rattle.dns_octets.specs.Parser.{octets_of, place_of}
use Rattle.dns_sections.specs.Cursor.{Passes, IsRefusal}
use Rattle.dns_sections.specs.Cursor.Passes.{none}
use Rattle.dns_sections.specs.Cursor.PassesAll.{again, whole, stuck}
use Rattle.dns_sections.proofs.Walks.{passes-more, refused}
use Rattle.dns_sections.proofs.cursor.ItemCursor.pass_all.Goals as goal

pub returns-in_err-left-clause-passes : goal.returns-in_err-left-clause-passes
returns-in_err-left-clause-passes g c =
    refused c.from_residual.result c.in_err-left.field-0.0 _ _ c.from_residual.ensures.1 (again c.in_err-left.was)

pub loop-init : goal.loop-init
loop-init g c = record { passed = none; same = refl }

pub returns-in_err-skip-clause-passes : goal.returns-in_err-skip-clause-passes
returns-in_err-skip-clause-passes g c =
    let at = place_of c.loop.parser in
    refused c.from_residual-in_err-skip.result c.in_err-skip.field-0.0 _ _ c.from_residual-in_err-skip.ensures.1 (stuck c.in_ok-left.was (record {
      passed = c.loop.counter;
      few = omega arith;
      at = at;
      passes = c.loop.invariant.passed;
      refused = subst (λ message. IsRefusal ((next : ℕ) → g.I.Item.skips message at next → ⊥) (g.I.Item.skip_is_cut message at) c.in_err-skip.field-0.0)
          c.loop.invariant.same c.in_err-skip.ensures.err;
    }))

pub loop-preserved : goal.loop-preserved
loop-preserved g c = record {
  passed = passes-more c.loop.invariant.passed
      (subst (λ message. g.I.Item.skips message (place_of c.loop.parser) (place_of c.skip.new.parser)) c.loop.invariant.same c.in_ok-skip.ensures.ok);
  same = c.skip.ensures.same ∙ c.loop.invariant.same;
}

pub returns-clause-passes : goal.returns-clause-passes
returns-clause-passes g c =
    let all : c.loop.counter ≡ c.in_ok-left.left = omega arith in
    whole c.in_ok-left.was (subst (λ n. Passes g.I.Item.skips (octets_of c.args.self.parser) (place_of c.args.self.parser) n (place_of c.loop.parser)) all
    c.loop.invariant.passed)
