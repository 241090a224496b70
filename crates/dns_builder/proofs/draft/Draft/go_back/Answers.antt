use Rattle.std.proofs.Common.{◌≡◌, ◌≤◌, ◌∙◌, ℕ, ◌+◌, ◌*◌, List, length, take, ap, rules, arith}
use Rattle.std.specs.Prelude.{slice_index}
use Rattle.dns_octets.specs.Builder.{before}
use Rattle.dns_builder.proofs.Cleared.{free_cut, free_same, free_counts, take-long, patched-long, behind-take}
use Rattle.dns_builder.proofs.draft.Draft.go_back.Goals as goal

pub patch-requires-clause-free : goal.patch-requires-clause-free
patch-requires-clause-free g c =
    let same : c.deref.result.now ≡ c.args.self.now.starts.items = search rules in
    let cut : g.Target.Remembers.known c.truncate.new.self
    ≡ before (slice_index c.args.self.now.starts.items c.args.count) (g.Target.Remembers.known c.args.self.now.opt.target) =
    c.truncate.ensures.known
    ∙ ap (λ (l : List ℕ). before (slice_index l c.args.count) (g.Target.Remembers.known c.args.self.now.opt.target)) same in
    free_counts c.args.count (g.Target.Remembers.known c.truncate.new.self) c.requires.few
    (free_cut (slice_index c.args.self.now.starts.items c.args.count) 12 (g.Target.Remembers.known c.args.self.now.opt.target)
    (g.Target.Remembers.known c.truncate.new.self) cut c.args.self.now.free)

pub invariant_of-self : goal.invariant_of-self
invariant_of-self g c =
    let start : 12 ≤ slice_index c.args.self.now.starts.items c.args.count = c.args.self.now.behind c.args.count c.requires.begun in
    let same : c.deref.result.now ≡ c.args.self.now.starts.items = search rules in
    let cut : g.Target.Octets.list c.truncate.new.self
    ≡ take (slice_index c.args.self.now.starts.items c.args.count) (g.Target.Octets.list c.args.self.now.opt.target) =
    c.truncate.ensures.octets
    ∙ ap (λ (l : List ℕ). take (slice_index l c.args.count) (g.Target.Octets.list c.args.self.now.opt.target)) same in
    let forgotten : g.Target.Remembers.known c.truncate.new.self
    ≡ before (slice_index c.args.self.now.starts.items c.args.count) (g.Target.Remembers.known c.args.self.now.opt.target) =
    c.truncate.ensures.known
    ∙ ap (λ (l : List ℕ). before (slice_index l c.args.count) (g.Target.Remembers.known c.args.self.now.opt.target)) same in
    let long : 12 ≤ length (g.Target.Octets.list c.truncate.new.self) =
    take-long 12 (slice_index c.args.self.now.starts.items c.args.count) (g.Target.Octets.list c.args.self.now.opt.target)
    (g.Target.Octets.list c.truncate.new.self) cut start c.args.self.now.header in
    let longer : length (g.Target.Octets.list c.truncate.new.self) ≤ length (g.Target.Octets.list c.patch.new.self) =
    patched-long (4 + 2 * c.args.count) (g.Target.Octets.list c.truncate.new.self) _ (g.Target.Octets.list c.patch.new.self)
    c.patch.ensures.octets (omega (arith, c.requires.few)) in
    record {
      header = omega arith;
      free = free_same 12 (g.Target.Remembers.known c.truncate.new.self) (g.Target.Remembers.known c.patch.new.self) c.patch.ensures.known
          (free_cut (slice_index c.args.self.now.starts.items c.args.count) 12 (g.Target.Remembers.known c.args.self.now.opt.target)
          (g.Target.Remembers.known c.truncate.new.self) forgotten c.args.self.now.free);
      behind = behind-take 12 c.args.count c.args.self.now.starts.items c.truncate-2.new.self.items c.truncate-2.ensures.items
          c.args.self.now.behind;
    }
