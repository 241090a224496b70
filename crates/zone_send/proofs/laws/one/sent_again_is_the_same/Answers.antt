use Rattle.zone_send.proofs.SentOnce.{same_again}
use Rattle.zone_send.proofs.laws.one.sent_again_is_the_same.Goals as goal

pub returns : goal.returns
returns c = same_again
