use Rattle.dns_builder.proofs.ReadsBack.{read_back}
use Rattle.dns_builder.proofs.laws.built_messages_are_read_back.Goals as goal

pub returns : goal.returns
returns c = read_back
