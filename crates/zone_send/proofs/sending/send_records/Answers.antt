use Rattle.std.proofs.Common.{◌≡◌, ◌<◌, ◌∙◌, ℕ, refl, ap, sym, subst, arith, take, length}
use Rattle.zone_send.specs.Sending.{IsRun}
use Rattle.zone_records.proofs.Indexed.{element_at}
use Rattle.zone_send.proofs.Runs.{holds_of, full_at_first, run_of, run_length, run_few, run_fits, room_for, next_message, blocked_next}
use Rattle.zone_send.proofs.Streams.{sent, some_of, all_again, soa_blocked, none_again}
use Rattle.zone_core.proofs.Flags.{none_of, at_true, at_false}
use Rattle.zone_send.proofs.sending.send_records.Goals as goal
use Rattle.zone_send.proofs.sending.send_records.Goals.{else-not-is_empty-via-then-not-is_empty+in_ok-put+else-not-branch, else-not-is_empty-via-else-not-is_empty}

pub loop-start-init : goal.loop-start-init
loop-start-init c = record {
  within = omega arith;
  holds = λ query holds. full_at_first c.args.sender query _ holds;
  max = refl;
}

pub returns-then-end-start-clause-err : goal.returns-then-end-start-clause-err
returns-then-end-start-clause-err c = λ query holds.
    let records = c.args.records.now in
    let start = c.loop-start.start in
    let room = c.room-room.result in
    let same : c.run_end-end.result ≡ start = omega (arith, c.if-end-start.true) in
    let P : ℕ → Type 0 = λ end. IsRun records start room end in
    let within : start < length records = omega (arith, c.loop-start-test.true, c.len.ensures.count) in
    blocked_next c.loop-start.sender query records start room c.args.sender.max (c.loop-start.invariant.holds query holds)
    (subst P same c.run_end-end.ensures) within
    (room_for c.args.sender c.loop-start.sender query room holds.holds.is_for c.room-room.ensures c.loop-start.invariant.max)
    c.loop-start.invariant.max

pub overflow_cast-end : goal.overflow_cast-end
overflow_cast-end c =
    omega (
      arith,
      run_few c.args.records.now c.loop-start.start c.run_end-end.result c.room-room.result c.run_end-end.ensures,
      c.room-room.ensures,
      c.requires.1.holds.is_for.small,
    )

pub add_message-requires : goal.add_message-requires
add_message-requires c =
    let query = c.requires.0 in
    let records = c.args.records.now in
    let start = c.loop-start.start in
    let end = c.run_end-end.result in
    let run = c.run_end-end.ensures in
    let full = c.loop-start.invariant.holds query c.requires.1 in
    let some : start < end = omega (arith, run.ordered, c.if-end-start.false) in
    let room_is = room_for c.args.sender c.loop-start.sender query c.room-room.result c.requires.1.holds.is_for c.room-room.ensures
    c.loop-start.invariant.max in (
      query,
      full.groups,
      full.holds,
      run_of records start end,
      c.octets_between.ensures,
      sym (run_length records start end run.ordered run.within),
      run_fits query records c.loop-start.sender.max start end c.room-room.result run some room_is,
    )

pub loop-start-preserved : goal.loop-start-preserved
loop-start-preserved c =
    let records = c.args.records.now in
    let start = c.loop-start.start in
    let end = c.run_end-end.result in
    let run = c.run_end-end.ensures in
    let some : start < end = omega (arith, run.ordered, c.if-end-start.false) in
    record {
      within = run.within;
      holds = λ query holds.
          next_message c.loop-start.sender c.add_message.new.self query records start end c.room-room.result
          (c.loop-start.invariant.holds query holds) run some
          (room_for c.args.sender c.loop-start.sender query c.room-room.result holds.holds.is_for c.room-room.ensures c.loop-start.invariant.max)
          c.in_ok-add_message.ensures.max
          (λ groups held. c.in_ok-add_message.ensures.whole query groups (run_of records start end) c.octets_between.ensures
          (sym (run_length records start end run.ordered run.within)) held);
      max = c.in_ok-add_message.ensures.max ∙ c.loop-start.invariant.max;
    }

pub put-requires-clause-holds : goal.put-requires-clause-holds
put-requires-clause-holds c =
    let query = c.requires.0 in
    (query, take c.loop-start.start c.args.records.now, holds_of c.loop-start.sender query _ _ (c.loop-start.invariant.holds query c.requires.1))

pub put-requires-clause-is_record : goal.put-requires-clause-is_record
put-requires-clause-is_record c =
    let soa = element_at c.args.records.now 0 (some_of _ _ c.is_empty.ensures c.if-not-is_empty.true) in
    (soa.0, c.octets_at.ensures.octets soa.0 soa.1)

pub returns-then-not-branch-clause-err : goal.returns-then-not-branch-clause-err
returns-then-not-branch-clause-err c = λ query holds.
    let records = c.args.records.now in
    let start = c.loop-start.start in
    let front = holds_of c.loop-start.sender query _ _ (c.loop-start.invariant.holds query holds) in
    let soa = element_at records 0 (some_of _ _ c.is_empty.ensures c.if-not-is_empty.true) in
    let refused = at_false _ c.if-not-branch.true c.in_ok-put.ensures.refused in
    let nowhere = refused query (take start records) soa.0 (c.octets_at.ensures.octets soa.0 soa.1) front in
    rw c.len-then-not-branch.ensures.count
    (soa_blocked c.loop-start.sender query records start soa.0 c.args.sender.max nowhere
    (omega (arith, c.loop-start-test.false, c.len.ensures.count)) soa.1 c.loop-start.invariant.max)

pub returns-clause-ok : goal.returns-clause-ok
returns-clause-ok c = λ query holds.
    let records = c.args.records.now in
    let start = c.loop-start.start in
    let front = holds_of c.loop-start.sender query _ _ (c.loop-start.invariant.holds query holds) in
    elim c.else-not-is_empty.branch [
      | else-not-is_empty-via-then-not-is_empty+in_ok-put+else-not-branch w ↦
          let soa = element_at records 0 (some_of _ _ c.is_empty.ensures w.if-not-is_empty.true) in
          let placed = at_true _ w.if-not-branch.false w.in_ok-put.ensures.placed in
          let whole = placed query (take start records) soa.0 (w.octets_at.ensures.octets soa.0 soa.1) front in
          sent w.put.new.self query records _ c.into_stream.result.items c.args.sender.max whole
          (all_again records start soa.0 (omega (arith, c.loop-start-test.false, c.len.ensures.count)) soa.1)
          (w.in_ok-put.ensures.max ∙ c.loop-start.invariant.max)
          (c.into_stream.ensures ∙ ap (λ s. s.stream.items) w.sender-is)
      | else-not-is_empty-via-else-not-is_empty w ↦
          sent c.loop-start.sender query records _ c.into_stream.result.items c.args.sender.max front
          (none_again records start (none_of _ _ c.is_empty.ensures w.if-not-is_empty.false)) c.loop-start.invariant.max
          (c.into_stream.ensures ∙ ap (λ s. s.stream.items) w.sender-is)
    ]
