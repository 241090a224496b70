use Rattle.zone_send.proofs.SpelledSums.{written_names}
use Rattle.zone_send.proofs.laws.spelled.written_records_have_names.Goals as goal

pub returns : goal.returns
returns c = written_names
