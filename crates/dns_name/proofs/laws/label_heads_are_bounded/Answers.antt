use Rattle.dns_name.proofs.HeadCounts.{heads-reads}
use Rattle.dns_name.proofs.laws.label_heads_are_bounded.Goals as goal

pub returns : goal.returns
returns c = λ message place next name reads. heads-reads reads
