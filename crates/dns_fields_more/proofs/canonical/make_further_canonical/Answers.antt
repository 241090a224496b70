use Rattle.dns_fields_more.proofs.Lowered.{further_lowered}
use Rattle.dns_fields_more.proofs.canonical.make_further_canonical.Goals as goal

pub returns-in-Some : goal.returns-in-Some
returns-in-Some c = λ canonical is. c.lower_fields.ensures canonical (further_lowered c.in-Some.ensures.some is)
