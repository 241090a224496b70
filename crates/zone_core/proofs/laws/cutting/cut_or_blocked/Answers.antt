use Rattle.zone_core.proofs.Cuttings.{cut_and_blocked}
use Rattle.zone_core.proofs.Greedy.{cut_or_blocked}
use Rattle.zone_core.proofs.laws.cutting.cut_or_blocked.Goals as goal

pub returns-clause-one_of_them : goal.returns-clause-one_of_them
returns-clause-one_of_them c = cut_or_blocked

pub returns-clause-not_both : goal.returns-clause-not_both
returns-clause-not_both c = cut_and_blocked
