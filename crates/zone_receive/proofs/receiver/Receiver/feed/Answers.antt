use Rattle.std.proofs.Common.{refl, sym, subst}
use Rattle.std.proofs.lemmas.List.{nil_from_length}
use Rattle.zone_receive.specs.Asked.{asked_of}
use Rattle.zone_core.proofs.Flags.{none_of}
use Rattle.zone_receive.specs.Received.{IsAt}
use Rattle.zone_receive.specs.declared.receiver.Progress.{Progress}
use Rattle.zone_receive.proofs.FrameBuffers.{goes_waits}
use Rattle.zone_receive.proofs.Receivers.{ends_ended, feeds_again, feeds_all, feeds_bad, feeds_empty, feeds_end, feeds_none}
use Rattle.zone_receive.proofs.receiver.Receiver.feed.Goals as goal

pub invariant_of-self : goal.invariant_of-self
invariant_of-self c =
    let waits = rw c.in-Begun.is at c.self.invariant.is_at in
    let goes = rw c.in-Ok-None.field-0-is at c.in-Ok-None.ensures.goes_on in
    let P : Progress → Type 0 = λ at. IsAt at c.take.new.self (asked_of c.self.inside.query) in
    record { is_at = subst P (sym c.in-Begun.is) (goes_waits _ waits goes); class_known = c.self.invariant.class_known }

pub invariant_of-self-in-Ok-Some : goal.invariant_of-self-in-Ok-Some
invariant_of-self-in-Ok-Some c =
    let waits = rw c.in-Begun.is at c.self.invariant.is_at in
    let ended = rw c.in-Ok-Some.field-0-is at c.in-Ok-Some.ensures.ended in
    record { is_at = ends_ended _ waits ended.1; class_known = c.self.invariant.class_known }

pub returns-in-Done-clause-takes : goal.returns-in-Done-clause-takes
returns-in-Done-clause-takes c =
    feeds_none _ c.self.inside.progress c.self.inside.buffer (asked_of c.self.inside.query) c.args.piece.now c.self.view_is c.in-Done.is

pub returns-in-Refused-clause-takes : goal.returns-in-Refused-clause-takes
returns-in-Refused-clause-takes c =
    feeds_again _ c.self.inside.progress c.self.inside.buffer (asked_of c.self.inside.query) c.args.piece.now c.in-Refused.error c.self.view_is c.in-Refused.is

pub returns-in-Begun-clause-takes : goal.returns-in-Begun-clause-takes
returns-in-Begun-clause-takes c =
    let waits = rw c.in-Begun.is at c.self.invariant.is_at in
    let none = nil_from_length c.args.piece.now (none_of _ _ c.is_empty.ensures c.if-is_empty.true) in
    feeds_empty _ c.self.inside.progress c.self.inside.buffer (asked_of c.self.inside.query) c.args.piece.now c.self.view_is c.in-Begun.is none waits

pub returns-in-Ok-None-clause-takes : goal.returns-in-Ok-None-clause-takes
returns-in-Ok-None-clause-takes c =
    feeds_all _ c.self.inside.progress c.self.inside.buffer c.take.new.self (asked_of c.self.inside.query) c.args.piece.now _ c.self.view_is c.in-Begun.is
    refl (rw c.in-Ok-None.field-0-is at c.in-Ok-None.ensures.goes_on)

pub returns-in-Ok-Some-clause-takes : goal.returns-in-Ok-Some-clause-takes
returns-in-Ok-Some-clause-takes c =
    let ended = rw c.in-Ok-Some.field-0-is at c.in-Ok-Some.ensures.ended in
    feeds_end _ c.self.inside.progress c.self.inside.buffer c.take.new.self (asked_of c.self.inside.query) c.args.piece.now _ c.self.view_is c.in-Begun.is
    ended.0 ended.1

pub returns-in-Err-clause-takes : goal.returns-in-Err-clause-takes
returns-in-Err-clause-takes c =
    feeds_bad _ c.self.inside.progress c.self.inside.buffer c.take.new.self (asked_of c.self.inside.query) c.args.piece.now _ c.self.view_is c.in-Begun.is
    c.in-Err.ensures.err
