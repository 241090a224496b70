use Rattle.std.proofs.Common.{◌∙◌, subst, refl, arith}
use Rattle.std.specs.Fn.{FnOnceReturnsAtMut}
use Rattle.std.proofs.lemmas.Result.{IfErr-weaker}
use Rattle.dns_octets.proofs.Grows.{GrowsTo-same}
use Rattle.dns_name.specs.Remembered.{IsKnown}
use Rattle.dns_name.proofs.Soundness.{merely-within}
use Rattle.dns_builder.specs.OptAsked.RefusesRecord.{closed}
use Rattle.dns_builder.proofs.Begun.{handed-on}
use Rattle.dns_builder.proofs.OptWritten.{start-last, grown, written, no-zeros}
use Rattle.dns_builder.proofs.opt.OptBuilder.build_opt.Goals as goal

pub returns-in_err-begin-clause-why : goal.returns-in_err-begin-clause-why
returns-in_err-begin-clause-why g c =
    handed-on c.from_residual.result c.in_err-begin.field-0.0 _ c.from_residual.ensures.1
    (no-zeros g.F.FnOnce _ c.args.op (g.Target.Octets.list c.args.self.now.target) (g.Target.OctetsBuilder.bound c.args.self.now.target)
    c.in_err-begin.field-0.0 c.in_err-begin.ensures.short c.in_err-begin.ensures.not_bad)

pub returns-in_err-begin-clause-grows : goal.returns-in_err-begin-clause-grows
returns-in_err-begin-clause-grows g c = GrowsTo-same _ _ _ _ c.in_err-begin.ensures.err c.begin.ensures.known

pub close-requires-clause-behind : goal.close-requires-clause-behind
close-requires-clause-behind g c =
    let called : FnOnceReturnsAtMut g.F.FnOnce c.args.op c.begin.new.self c.op-answered.result c.op-answered.new.arg2 =
    record { shown = _; shows = refl; left = _; met = c.op-answered.ensures; leaves = refl } in
    let leaves = c.requires.builds c.begin.new.self c.op-answered.new.arg2 c.op-answered.result called in
    let start = start-last g.Target.Octets.list g.Target.Remembers.known g.Target.OctetsBuilder.bound g.Target.OctetsBuilder.stays
    (g.Target.Octets.list c.args.self.now.target) c.begin.new.self c.op-answered.new.arg2 c.in_ok-begin.ensures.start
    c.in_ok-begin.ensures.octets leaves in
    omega (arith, start)

pub close-requires-clause-stops : goal.close-requires-clause-stops
close-requires-clause-stops g c standing is =
    let called : FnOnceReturnsAtMut g.F.FnOnce c.args.op c.begin.new.self c.op-answered.result c.op-answered.new.arg2 =
    record { shown = _; shows = refl; left = _; met = c.op-answered.ensures; leaves = refl } in
    let leaves = c.requires.builds c.begin.new.self c.op-answered.new.arg2 c.op-answered.result called in
    let start = start-last g.Target.Octets.list g.Target.Remembers.known g.Target.OctetsBuilder.bound g.Target.OctetsBuilder.stays
    (g.Target.Octets.list c.args.self.now.target) c.begin.new.self c.op-answered.new.arg2 c.in_ok-begin.ensures.start
    c.in_ok-begin.ensures.octets leaves in
    let stops = merely-within (g.met.Target.Composer.sound c.args.self.now.target) standing
    (subst (IsKnown standing) (leaves.known ∙ c.begin.ensures.known) is) in
    omega (arith, start, stops)

pub returns-clause-ok : goal.returns-clause-ok
returns-clause-ok g c =
    let called : FnOnceReturnsAtMut g.F.FnOnce c.args.op c.begin.new.self c.op-answered.result c.op-answered.new.arg2 =
    record { shown = _; shows = refl; left = _; met = c.op-answered.ensures; leaves = refl } in
    let leaves = c.requires.builds c.begin.new.self c.op-answered.new.arg2 c.op-answered.result called in
    written g.Target.Octets.list g.Target.Remembers.known g.Target.OctetsBuilder.bound g.Target.OctetsBuilder.stays
    (g.Target.Octets.list c.args.self.now.target) c.begin.new.self c.op-answered.new.arg2 c.in_ok-begin.ensures.start
    c.in_ok-begin.ensures.octets leaves g.F.FnOnce c.args.op g.Target.Composer.spelling
    (g.Target.Remembers.known c.args.self.now.target) c.op-answered.result c.in_ok-begin.ensures.ok c.in_ok-begin.ensures.said called
    c.close.result _ _ (c.close.ensures.known ∙ leaves.known ∙ c.begin.ensures.known)
    c.close.ensures.header c.close.ensures.unrefused c.close.ensures.short c.close.ensures.written

pub returns-clause-why : goal.returns-clause-why
returns-clause-why g c =
    let called : FnOnceReturnsAtMut g.F.FnOnce c.args.op c.begin.new.self c.op-answered.result c.op-answered.new.arg2 =
    record { shown = _; shows = refl; left = _; met = c.op-answered.ensures; leaves = refl } in
    let leaves = c.requires.builds c.begin.new.self c.op-answered.new.arg2 c.op-answered.result called in
    IfErr-weaker c.close.result _ _ (λ error is. closed c.in_ok-begin.ensures.ok called is) c.close.ensures.why

pub returns-clause-grows : goal.returns-clause-grows
returns-clause-grows g c =
    let called : FnOnceReturnsAtMut g.F.FnOnce c.args.op c.begin.new.self c.op-answered.result c.op-answered.new.arg2 =
    record { shown = _; shows = refl; left = _; met = c.op-answered.ensures; leaves = refl } in
    let leaves = c.requires.builds c.begin.new.self c.op-answered.new.arg2 c.op-answered.result called in
    grown g.Target.Octets.list g.Target.Remembers.known g.Target.OctetsBuilder.bound g.Target.OctetsBuilder.stays
    (g.Target.Octets.list c.args.self.now.target) c.begin.new.self c.op-answered.new.arg2 c.in_ok-begin.ensures.start
    c.in_ok-begin.ensures.octets leaves c.close.result (g.Target.Remembers.known c.args.self.now.target) _ _
    (c.close.ensures.known ∙ leaves.known ∙ c.begin.ensures.known) c.close.ensures.err c.close.ensures.written

pub returns-clause-same_bound : goal.returns-clause-same_bound
returns-clause-same_bound g c =
    let called : FnOnceReturnsAtMut g.F.FnOnce c.args.op c.begin.new.self c.op-answered.result c.op-answered.new.arg2 =
    record { shown = _; shows = refl; left = _; met = c.op-answered.ensures; leaves = refl } in
    let leaves = c.requires.builds c.begin.new.self c.op-answered.new.arg2 c.op-answered.result called in
    c.close.ensures.same_bound ∙ leaves.bound ∙ c.begin.ensures.same_bound

pub returns-clause-stays : goal.returns-clause-stays
returns-clause-stays g c =
    let called : FnOnceReturnsAtMut g.F.FnOnce c.args.op c.begin.new.self c.op-answered.result c.op-answered.new.arg2 =
    record { shown = _; shows = refl; left = _; met = c.op-answered.ensures; leaves = refl } in
    let leaves = c.requires.builds c.begin.new.self c.op-answered.new.arg2 c.op-answered.result called in
    g.met.Target.OctetsBuilder.stays_on _ _ _ (g.met.Target.OctetsBuilder.stays_on _ _ _ c.begin.ensures.stays leaves.stays) c.close.ensures.stays
