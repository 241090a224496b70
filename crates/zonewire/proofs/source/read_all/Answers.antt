use Rattle.std.proofs.Common.{rules, ◌≡◌, ◌++◌, [], take, subst, refl, sym, ap, ◌∙◌}
use Rattle.std.proofs.lemmas.List.{take_at}
use Rattle.std.specs.Io.KnownBytes.{Consumes}
use Rattle.zonewire.proofs.Known.{consumes_nothing, consumes_both, last_taken}
use Rattle.zonewire.proofs.source.read_all.Goals as goal

pub loop-octets-init : goal.loop-octets-init
loop-octets-init g c =
    let empty : c.new-octets.result.items ≡ [] = search rules in
    (subst (Consumes _ _) (sym empty) (consumes_nothing _), refl, search rules)

pub returns-then-count-eq0-clause-octets : goal.returns-then-count-eq0-clause-octets
returns-then-count-eq0-clause-octets g c =
    let read = c.in_ok-count.ensures.octets in
    let room = c.loop-octets.invariant.2 in
    last_taken _ _ _ _ _ _ c.loop-octets.invariant.0 c.if-count-eq0.true read.0 (read.1 c.if-count-eq0.true (search rules))

pub loop-octets-preserved : goal.loop-octets-preserved
loop-octets-preserved g c =
    let read = c.in_ok-count.ensures.octets in
    let more = consumes_both _ _ _ _ _ c.loop-octets.invariant.0 read.0 in
    let octets = c.loop-octets.octets.items in
    let n = c.in_ok-count.count in
    let filled : c.deref.result.now ≡ c.read_some.new.piece =
    c.deref.ensures.value ∙ take_at c.read_some.new.piece _ _ (c.read_some.auto.piece ∙ c.as_mut_slice.ensures.len) in
    let grown : c.extend_from_slice.new.self.items ≡ octets ++ take n c.read_some.new.piece = c.in_ok-extend_from_slice.ensures.items ∙ ap (λ l. octets ++ take n l) filled in
    (subst (Consumes _ _) (sym grown) more, search rules, c.loop-octets.invariant.2)
