use Rattle.dns_builder.proofs.ReadsBack.{readable_going}
use Rattle.dns_builder.proofs.laws.other_sections_are_readable.Goals as goal

pub returns : goal.returns
returns c = readable_going
