use Rattle.zone_send.proofs.SpelledTransfers.{spelled_again}
use Rattle.zone_send.proofs.laws.spelled.spelled_is_sent_again.Goals as goal

pub returns : goal.returns
returns c = spelled_again
