use Rattle.std.proofs.Common.{◌≤◌, true, length, refl, ap, arith}
use Rattle.zone_receive.specs.declared.frame_buffer.FrameBuffer.{FrameBuffer}
use Rattle.zone_receive.proofs.FrameBuffers.{heard_none, waits_none}
use Rattle.zone_receive.proofs.frame_buffer.FrameBuffer.new.Goals as goal

pub returns-clause-heard : goal.returns-clause-heard
returns-clause-heard c =
    let bounded : length c.new.result.items ≤ 65537 = omega (arith, ap length c.new.ensures.items) in
    let buffer : FrameBuffer = record { open_frame = c.new.result; is_first = true; records = c.new-2.result; bounded = bounded } in
    λ query. heard_none buffer query c.new.ensures.items c.new-2.ensures refl

pub returns-clause-waits : goal.returns-clause-waits
returns-clause-waits c = λ query. waits_none _ query c.new.ensures.items c.new-2.ensures refl
