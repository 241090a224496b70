use Rattle.zone_send.proofs.SpelledTransfers.{spelled_taken, spelled_exact}
use Rattle.zone_send.proofs.laws.spelled.spelled_is_a_transfer.Goals as goal

pub returns-clause-taken : goal.returns-clause-taken
returns-clause-taken c = spelled_taken

pub returns-clause-exact : goal.returns-clause-exact
returns-clause-exact c = spelled_exact
