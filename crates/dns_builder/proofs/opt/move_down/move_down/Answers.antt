use Rattle.std.proofs.Common.{◌≡◌, ◌+◌, ◌∙◌, ℕ, true, List, length, take, drop, ap, subst, sym, arith}
use Rattle.dns_octets.specs.Builder.{Known, before}
use Rattle.dns_name.specs.Remembered.{is_free, patched}
use Rattle.dns_name.proofs.Known.{before_all}
use Rattle.dns_builder.proofs.MovedDown.{moved_some, moved-more, moved-long, chunk-long}
use Rattle.dns_builder.proofs.OptPages.{free_behind}
use Rattle.dns_builder.proofs.opt.move_down.move_down.Goals as goal

pub patch-requires-clause-within : goal.patch-requires-clause-within
patch-requires-clause-within g c =
    let l = c.loop-read.invariant in
    let octets : List ℕ = g.Target.Octets.list c.args.target.now in
    let chunk : c.chunk_at-chunk.result.items ≡ take 64 (drop c.loop-read.read (g.Target.Octets.list c.loop-read.target)) =
    c.chunk_at-chunk.ensures ∙ ap (λ o. take 64 (drop c.loop-read.read o)) c.octets-in-loop-read.ensures in
    omega (
      arith,
      c.requires.down,
      l.level,
      ap (length {A = ℕ}) c.as_slice.ensures.value,
      moved-long octets c.args.to c.args.from c.loop-read.read c.loop-read.write c.requires.down l.behind l.within l.level _ l.octets,
      chunk-long octets c.args.to c.args.from c.loop-read.read c.loop-read.write c.requires.down l.behind l.within l.level _ _ l.octets chunk,
    )

pub patch-requires-clause-free : goal.patch-requires-clause-free
patch-requires-clause-free g c =
    let l = c.loop-read.invariant in
    subst (λ (k : Known). is_free c.loop-read.write (c.loop-read.write + length c.as_slice.result.now) k ≡ true) (sym l.known)
    (free_behind c.args.to c.loop-read.write _ (g.Target.Remembers.known c.args.target.now) c.requires.stops (omega (arith, l.level, l.behind)))

pub loop-read-preserved : goal.loop-read-preserved
loop-read-preserved g c =
    let l = c.loop-read.invariant in
    let octets : List ℕ = g.Target.Octets.list c.args.target.now in
    let now : List ℕ = g.Target.Octets.list c.loop-read.target in
    let chunk : c.chunk_at-chunk.result.items ≡ take 64 (drop c.loop-read.read now) =
    c.chunk_at-chunk.ensures ∙ ap (λ o. take 64 (drop c.loop-read.read o)) c.octets-in-loop-read.ensures in
    let fits = chunk-long octets c.args.to c.args.from c.loop-read.read c.loop-read.write c.requires.down l.behind l.within l.level now _ l.octets chunk in
    record {
      octets = c.patch.ensures.octets
          ∙ ap (λ o. patched now c.loop-read.write o) c.as_slice.ensures.value
          ∙ moved-more octets c.args.to c.args.from c.loop-read.read c.loop-read.write c.requires.down l.behind l.within l.level now _ l.octets chunk
          ∙ λ i. moved_some octets c.args.to c.args.from (c.loop-read.read + sym c.len-read.ensures.value i)
          (c.loop-read.write + sym c.len-write.ensures.value i);
      level = omega (arith, l.level, c.len-read.ensures.value, c.len-write.ensures.value);
      behind = omega (arith, l.behind);
      within = omega (arith, fits, c.len-read.ensures.value);
      known = c.patch.ensures.known ∙ l.known;
      bound = c.patch.ensures.same_bound ∙ l.bound;
      stays = g.met.Target.OctetsBuilder.stays_on _ _ _ l.stays c.patch.ensures.stays;
    }

pub returns-clause-known : goal.returns-clause-known
returns-clause-known g c =
    let l = c.loop-read.invariant in
    c.truncate.ensures.known
    ∙ ap (λ (k : Known). before c.loop-read.write k) l.known
    ∙ before_all c.loop-read.write (g.Target.Remembers.known c.args.target.now)
    (λ standing is. let e = c.requires.stops standing is in omega (arith, e, l.level, l.behind))
