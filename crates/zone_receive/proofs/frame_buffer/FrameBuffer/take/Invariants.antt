use Rattle.std.proofs.Common.{◌-◌, ◌≤◌, length, take}
use Rattle.zone_receive.specs.Asked.{asked_of}
use Rattle.zone_receive.specs.FrameBuffer.{GoesOn}
use Rattle.zone_receive.proofs.frame_buffer.FrameBuffer.take.Given as given

-- the octets that are taken are whole frames
abbrev pub invariant-loop-len : given.invariant-loop-len
invariant-loop-len l = record {
  within : l.taken ≤ length l.piece;
  goes : GoesOn l.fn.self (take l.taken l.piece) l.self (asked_of l.query);
}

abbrev pub decreases-loop-len : given.decreases-loop-len
decreases-loop-len l = length l.piece - l.taken
