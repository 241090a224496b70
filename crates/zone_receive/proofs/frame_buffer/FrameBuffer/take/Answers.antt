use Rattle.std.proofs.Common.{◌+◌, ◌-◌, ℕ, List, ◌++◌, length, take, drop, refl, sym, ap, ◌∙◌, subst, arith, length-drop}
use Rattle.std.proofs.lemmas.List.{take-append-drop, take_rest}
use Rattle.std.proofs.lemmas.Result.{err_from_is_err_and}
use Rattle.zone_receive.specs.Asked.{asked_of}
use Rattle.zone_core.specs.Frames.{IsPartial}
use Rattle.zone_receive.proofs.FrameBuffers.{breaks_more, ends_more, framed_next, goes_more, goes_none, goes_waits, opens_more, piece_is, piece_next}
use Rattle.zone_core.proofs.Flags.{at_false, at_true}
use Rattle.zone_receive.proofs.frame_buffer.FrameBuffer.take.Goals as goal

pub loop-len-init : goal.loop-len-init
loop-len-init c = record { within = omega arith; goes = goes_none c.args.self.now (asked_of c.args.query.now) c.args.piece.now c.requires.known }

pub missing-requires : goal.missing-requires
missing-requires c =
    subst IsPartial (sym c.as_slice.ensures.value) (goes_waits _ c.requires c.loop-len.invariant.goes).heard.splits.partial

pub judge-requires-clause-waits : goal.judge-requires-clause-waits
judge-requires-clause-waits c = goes_waits _ c.requires c.loop-len.invariant.goes

pub judge-requires-clause-framed : goal.judge-requires-clause-framed
judge-requires-clause-framed c =
    framed_next c.loop-len.self.open_frame.items _ _ (drop c.loop-len.taken c.args.piece.now) c.loop-len.taken c.in-Some.len c.as_slice.ensures.value
    (take_rest c.args.piece.now c.loop-len.taken) c.in-Some.ensures.found.framed

pub returns-then-branch-clause-ended : goal.returns-then-branch-clause-ended
returns-then-branch-clause-ended c =
    let piece : List ℕ = c.args.piece.now in
    let taken : ℕ = c.loop-len.taken in
    let end : ℕ = taken + c.in-Some.len in (
      omega (arith, c.in-Some.ensures.found.within, c.loop-len.invariant.within, length-drop taken piece),
      ends_more (take taken piece) (take (end - taken) (drop taken piece)) (take end piece) (piece_next piece taken end (omega arith))
          c.loop-len.invariant.goes (at_true c.in_ok-judge.field-0 c.if-branch.true c.in_ok-judge.ensures.ends),
    )

pub loop-len-preserved : goal.loop-len-preserved
loop-len-preserved c =
    let piece : List ℕ = c.args.piece.now in
    let taken : ℕ = c.loop-len.taken in
    let end : ℕ = taken + c.in-Some.len in
    record {
      within = omega (arith, c.in-Some.ensures.found.within, c.loop-len.invariant.within, length-drop taken piece);
      goes = goes_more (take taken piece) (take (end - taken) (drop taken piece)) (take end piece) (piece_next piece taken end (omega arith))
          c.loop-len.invariant.goes (at_false c.in_ok-judge.field-0 c.if-branch.false c.in_ok-judge.ensures.goes_on);
    }

pub loop-len-smaller : goal.loop-len-smaller
loop-len-smaller c =
    omega (arith, c.in-Some.ensures.found.some, c.in-Some.ensures.found.within, c.loop-len.invariant.within, length-drop c.loop-len.taken c.args.piece.now)

pub returns-in_err-judge-clause-err : goal.returns-in_err-judge-clause-err
returns-in_err-judge-clause-err c =
    let piece : List ℕ = c.args.piece.now in
    let taken : ℕ = c.loop-len.taken in
    let end : ℕ = taken + c.in-Some.len in
    let p = err_from_is_err_and c.from_residual.result c.from_residual.ensures.1 in
    rw (p.1, p.2) (breaks_more _ (take taken piece) (take (end - taken) (drop taken piece)) (drop end piece) piece
    (piece_is piece taken end (omega arith)) c.loop-len.invariant.goes c.in_err-judge.ensures.err)

pub returns-clause-goes_on : goal.returns-clause-goes_on
returns-clause-goes_on c =
    let piece : List ℕ = c.args.piece.now in
    let taken : ℕ = c.loop-len.taken in
    let front : List ℕ = c.loop-len.self.open_frame.items in
    let rest : List ℕ = take (length piece - taken) (drop taken piece) in
    let same = take_rest piece taken in
    let whole = ap (λ (l : List ℕ). l ++ rest) c.as_slice.ensures.value ∙ ap (λ (l : List ℕ). front ++ l) same in
    let opened = c.in_ok-extend_from_slice.ensures.items ∙ ap (λ (l : List ℕ). front ++ l) same in
    goes_more (take taken piece) (drop taken piece) piece (take-append-drop taken piece) c.loop-len.invariant.goes
    (opens_more c.loop-len.self _ (asked_of c.args.query.now) (drop taken piece) opened refl refl (subst IsPartial whole c.in_default.ensures.found)
    c.loop-len.invariant.goes.known)
