use Rattle.zone_send.proofs.SentTransfers.{received_is_sent_again}
use Rattle.zone_send.proofs.laws.sent.received_is_sent_again.Goals as goal

pub returns : goal.returns
returns c = received_is_sent_again
