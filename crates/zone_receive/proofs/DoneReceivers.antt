-- A receiver that is not done has no transfer.
use Rattle.std.proofs.Common.{◌≡◌, ℕ, None, List, [], refl, sym, append-nil}
use Rattle.zone_receive.specs.Receiving.{Heard, IsAfter, IsAfterAt, IsHeard, IsWholeTransfer, Stage, refusal_in}
use Rattle.zone_receive.specs.Receiving.Stage.{Begun, Ended, Fresh, Refused}
use Rattle.zone_receive.proofs.FrameBuffers.{heard_is_begun}
use Rattle.zone_receive.proofs.OneOfThree.{transfer_not_begun}

-- a stream that is heard so far is not a transfer
heard_not_whole : (heard : Heard) (stream : List ℕ) → IsHeard heard stream → IsWholeTransfer heard.query stream → ⊥
heard_not_whole heard stream is whole =
    transfer_not_begun heard.query stream stream [] whole.0 (sym (append-nil stream)) whole.1 (heard_is_begun is)

whole_is_ended : (at : Stage) (heard : Heard) (stream : List ℕ) → IsAfterAt at heard stream → refusal_in at ≡ None
    → IsWholeTransfer heard.query stream → at ≡ Ended
whole_is_ended Fresh heard stream after kept whole = absurd (heard_not_whole heard stream after whole)
whole_is_ended Begun heard stream after kept whole = absurd (heard_not_whole heard stream after whole)
whole_is_ended Ended heard stream after kept whole = refl
whole_is_ended (Refused error) heard stream after kept whole = absurd cc

-- a receiver that is not done has no transfer, or has failed
pub not_done : (heard : Heard) (stream : List ℕ) → (heard.stage ≡ Ended → ⊥) → IsAfter heard stream → refusal_in heard.stage ≡ None
    → IsWholeTransfer heard.query stream → ⊥
not_done heard stream not_there after kept whole = not_there (whole_is_ended heard.stage heard stream after kept whole)
