use Rattle.std.proofs.Common.{◌∙◌, ◌+◌, ◌≤◌, Bool, [], ◌∷◌, refl, ap, subst, arith}
use Rattle.dns_builder.specs.Seen.{draft_of}
use Rattle.zone_records.proofs.Indexed.{all_at, element_at}
use Rattle.zone_core.specs.Asked.{asked_by}
use Rattle.zone_core.specs.Frames.{frame}
use Rattle.zone_send.specs.Sent.{with_soa_again}
use Rattle.zone_send.specs.SpelledSending.{IsItem, IsPushed}
use Rattle.zone_send.proofs.SpelledPushes.{when_none, when_some}
use Rattle.zone_send.proofs.SpelledStreams.{held_first, held_next, no_room, no_room_asked, next_frame, last_frame}
use Rattle.zone_send.proofs.sending.spelled.Answer.next_frame.Goals as goal

pub returns-in_default-clause-err : goal.returns-in_default-clause-err
returns-in_default-clause-err g c = λ item items.
    let there = element_at (with_soa_again c.args.self.now.records.now) c.args.start c.requires.within in
    (refl, no_room_asked there.1 (when_none c.in_ok-begun.begun _ _ c.in_default.not-Some (c.in_ok-begun.ensures item)))

pub returns-then-not-branch-clause-err : goal.returns-then-not-branch-clause-err
returns-then-not-branch-clause-err g c = λ item items.
    let answer = c.args.self.now in
    let query = asked_by answer.query.now in
    let r = c.record_at.result in
    let is = all_at (IsItem item) (with_soa_again answer.records.now) c.args.start r c.record_at.ensures.there items in
    let holds = when_some c.in_ok-begun.begun c.in-Some.builder _ _ c.in-Some.is (c.in_ok-begun.ensures item) in
    let P : Bool → Type 0 = λ placed. IsPushed g.Target.Composer.spelling query item answer.max [] r placed (draft_of c.push_record.new.builder) in
    let pushed = subst P c.if-not-branch.true (c.in_ok-push_record.ensures query item answer.max [] is holds) in
    (refl, no_room c.record_at.ensures.there pushed.1)

pub loop-next-init : goal.loop-next-init
loop-next-init g c = λ item items.
    let answer = c.args.self.now in
    let query = asked_by answer.query.now in
    let r = c.record_at.result in
    let is = all_at (IsItem item) (with_soa_again answer.records.now) c.args.start r c.record_at.ensures.there items in
    let holds = when_some c.in_ok-begun.begun c.in-Some.builder _ _ c.in-Some.is (c.in_ok-begun.ensures item) in
    let P : Bool → Type 0 = λ placed. IsPushed g.Target.Composer.spelling query item answer.max [] r placed (draft_of c.push_record.new.builder) in
    held_first c.record_at.ensures.there (subst P c.if-not-branch.false (c.in_ok-push_record.ensures query item answer.max [] is holds))

pub returns-then-not-branch-2-clause-ok : goal.returns-then-not-branch-2-clause-ok
returns-then-not-branch-2-clause-ok g c = λ item items.
    let answer = c.args.self.now in
    let query = asked_by answer.query.now in
    let r = c.record_at-in-loop-next.result in
    let there = c.record_at-in-loop-next.ensures.there in
    let is = all_at (IsItem item) (with_soa_again answer.records.now) c.loop-next.next r there items in
    let held = c.loop-next.invariant item items in
    let new = draft_of c.push_record-in-loop-next.new.builder in
    let P : Bool → Type 0 = λ placed. IsPushed g.Target.Composer.spelling query item answer.max (held.first ∷ held.others) r placed new in
    next_frame new c.into_frame.result.items held (omega (arith, c.loop-next.auto.next))
    (omega (arith, c.loop-next-test.true, c.len-count.ensures.count)) there
    (subst P c.if-not-branch-2.true (c.in_ok-push_record-2.ensures query item answer.max (held.first ∷ held.others) is held.holds))
    (c.into_frame.ensures ∙ ap (λ target. frame (g.Target.Octets.list target)) c.into_target.ensures)

pub loop-next-preserved : goal.loop-next-preserved
loop-next-preserved g c = λ item items.
    let answer = c.args.self.now in
    let query = asked_by answer.query.now in
    let r = c.record_at-in-loop-next.result in
    let there = c.record_at-in-loop-next.ensures.there in
    let is = all_at (IsItem item) (with_soa_again answer.records.now) c.loop-next.next r there items in
    let held = c.loop-next.invariant item items in
    let new = draft_of c.push_record-in-loop-next.new.builder in
    let P : Bool → Type 0 = λ placed. IsPushed g.Target.Composer.spelling query item answer.max (held.first ∷ held.others) r placed new in
    held_next held there
    (subst P c.if-not-branch-2.false (c.in_ok-push_record-2.ensures query item answer.max (held.first ∷ held.others) is held.holds))

pub returns-clause-ok : goal.returns-clause-ok
returns-clause-ok g c = λ item items.
    let first : c.args.start + 1 ≤ c.len-count.result = omega (arith, c.requires.within, c.len-count.ensures.count) in
    last_frame c.into_frame-2.result.items c.len-count.result (c.loop-next.invariant item items)
    (omega (arith, c.loop-next-test.false, c.loop-next.auto.next-end first)) (omega (arith, first)) c.len-count.ensures.count
    (c.into_frame-2.ensures ∙ ap (λ target. frame (g.Target.Octets.list target)) c.into_target-2.ensures)
