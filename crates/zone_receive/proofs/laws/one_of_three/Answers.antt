use Rattle.zone_receive.proofs.JudgedStreams.{one_of_three}
use Rattle.zone_receive.proofs.laws.one_of_three.Goals as goal

pub returns : goal.returns
returns c = one_of_three
