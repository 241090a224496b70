use Rattle.zone_core.proofs.Framing.{splits_one}
use Rattle.zone_core.proofs.laws.framing.two_splits_are_one.Goals as goal

pub returns : goal.returns
returns c = splits_one
