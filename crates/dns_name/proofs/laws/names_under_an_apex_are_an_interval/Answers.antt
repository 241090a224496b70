use Rattle.dns_name.proofs.Intervals.{apex_interval, apex_least}
use Rattle.dns_name.proofs.laws.names_under_an_apex_are_an_interval.Goals as goal

pub returns-clause-interval : goal.returns-clause-interval
returns-clause-interval c = apex_interval

pub returns-clause-least : goal.returns-clause-least
returns-clause-least c = apex_least
