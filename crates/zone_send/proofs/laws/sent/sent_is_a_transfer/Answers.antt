use Rattle.zone_send.proofs.SentTransfers.{sendable_is_transfer}
use Rattle.zone_send.proofs.laws.sent.sent_is_a_transfer.Goals as goal

pub returns : goal.returns
returns c = sendable_is_transfer
