use Rattle.std.proofs.Common.{◌≡◌, ◌++◌, ◌∙◌, ℕ, List, [], ap, refl, length, arith}
use Rattle.std.specs.Prelude.{replicate}
use Rattle.dns_name.specs.RecordData.{page_of}
use Rattle.dns_builder.proofs.Cleared.{cleared, free_same, append-long}
use Rattle.dns_builder.proofs.draft.Draft.new.Goals as goal

pub invariant_of-result : goal.invariant_of-result
invariant_of-result g c =
    let none : g.Target.Remembers.known c.append_slice.new.self ≡ [] =
    c.append_slice.ensures.known ∙ (c.truncate.ensures.known ∙ cleared (g.met.Target.Composer.sound c.args.target)) in
    record {
      header = append-long (g.Target.Octets.list c.truncate.new.self) (replicate 12 0) (g.Target.Octets.list c.over.result.target)
          (ap g.Target.Octets.list c.over.ensures ∙ c.in_ok-append_slice.ensures.ok);
      free = free_same 12 [] (g.Target.Remembers.known c.over.result.target) (ap g.Target.Remembers.known c.over.ensures ∙ none) refl;
      behind = λ number within. absurd (omega (arith, within, ap (length {A = ℕ}) c.new.ensures));
    }

pub returns-clause-ok : goal.returns-clause-ok
returns-clause-ok g c =
    let none : g.Target.Remembers.known c.append_slice.new.self ≡ [] =
    c.append_slice.ensures.known ∙ (c.truncate.ensures.known ∙ cleared (g.met.Target.Composer.sound c.args.target)) in
    let octets : g.Target.Octets.list c.over.result.target ≡ replicate 12 0 =
    ap g.Target.Octets.list c.over.ensures ∙ c.in_ok-append_slice.ensures.ok ∙ ap (λ (l : List ℕ). l ++ replicate 12 0) c.truncate.ensures.octets in
    let bounded : g.Target.OctetsBuilder.bound c.over.result.target ≡ g.Target.OctetsBuilder.bound c.args.target =
    ap g.Target.OctetsBuilder.bound c.over.ensures ∙ c.append_slice.ensures.same_bound ∙ c.truncate.ensures.same_bound in
    λ i. record { page = page_of (octets i) ((ap g.Target.Remembers.known c.over.ensures ∙ none) i); bound = bounded i; starts = c.new.ensures i; limit = 18446744073709551615 }
