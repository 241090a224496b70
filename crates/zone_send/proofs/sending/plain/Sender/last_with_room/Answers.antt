use Rattle.std.proofs.Common.{arith}
use Rattle.zone_send.proofs.PutRecords.{last_small}
use Rattle.zone_send.proofs.sending.plain.Sender.last_with_room.Goals as goal

pub overflow_add-len : goal.overflow_add-len
overflow_add-len c =
    let holds = c.requires.holds in
    omega (arith, last_small c.args.self.now holds.0 holds.1 c.in_ok-start.start holds.2 c.in_ok-start.was)
