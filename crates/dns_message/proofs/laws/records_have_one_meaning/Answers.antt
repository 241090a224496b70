use Rattle.dns_message.proofs.HeldRecords.{read_taken, taken_read, item_taken, item_read}
use Rattle.dns_message.proofs.laws.records_have_one_meaning.Goals as goal

pub returns-clause-there : goal.returns-clause-there
returns-clause-there c = λ message place next r reads. let it = read_taken r reads in (it.rr, it.taken, it.is)

pub returns-clause-back : goal.returns-clause-back
returns-clause-back c = λ message place next rr each taken. taken_read rr each taken

pub returns-clause-item : goal.returns-clause-item
returns-clause-item c = λ message place next parsed rr holds is. item_taken holds is

pub returns-clause-found : goal.returns-clause-found
returns-clause-found c = λ message place next end r parsed reads holds.
    let it = item_read r reads holds in (it.ends, it.rr, it.read, it.is)
