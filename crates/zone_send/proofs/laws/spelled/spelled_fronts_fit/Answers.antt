use Rattle.zone_send.proofs.SpelledCuts.{spelled_fronts_fit}
use Rattle.zone_send.proofs.laws.spelled.spelled_fronts_fit.Goals as goal

pub returns : goal.returns
returns c = spelled_fronts_fit
