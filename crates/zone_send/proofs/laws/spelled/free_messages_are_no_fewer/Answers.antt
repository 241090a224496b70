use Rattle.zone_send.proofs.SpelledCuts.{free_takes, free_no_fewer, free_none}
use Rattle.zone_send.proofs.laws.spelled.free_messages_are_no_fewer.Goals as goal

pub returns-clause-fewest : goal.returns-clause-fewest
returns-clause-fewest c = λ query item max records full groups messages few. free_no_fewer query item max records full groups messages few

pub returns-clause-none : goal.returns-clause-none
returns-clause-none c = λ query item max records n groups messages few. free_none query item max records n groups messages few

pub returns-clause-shortest : goal.returns-clause-shortest
returns-clause-shortest c = λ query item group message few free. free_takes query item message group few free
