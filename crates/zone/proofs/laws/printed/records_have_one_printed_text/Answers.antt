use Rattle.zone.proofs.PrintedOnce.{one_printed, some_printed}
use Rattle.zone.proofs.laws.printed.records_have_one_printed_text.Goals as goal

pub returns-clause-some : goal.returns-clause-some
returns-clause-some c layout class records are = some_printed layout class records are.each

pub returns-clause-one : goal.returns-clause-one
returns-clause-one c layout records a b printed other = one_printed layout printed other
