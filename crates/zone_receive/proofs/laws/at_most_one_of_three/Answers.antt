use Rattle.zone_receive.proofs.OneOfThree.{transfer_not_bad, transfer_not_begun, begun_not_bad, transfer_beginning_one, bad_one}
use Rattle.zone_receive.proofs.laws.at_most_one_of_three.Goals as goal

pub returns-clause-transfer_or_fault : goal.returns-clause-transfer_or_fault
returns-clause-transfer_or_fault c = transfer_not_bad

pub returns-clause-transfer_or_begun : goal.returns-clause-transfer_or_begun
returns-clause-transfer_or_begun c = transfer_not_begun

pub returns-clause-begun_or_fault : goal.returns-clause-begun_or_fault
returns-clause-begun_or_fault c = begun_not_bad

pub returns-clause-one_beginning : goal.returns-clause-one_beginning
returns-clause-one_beginning c = transfer_beginning_one

pub returns-clause-one_fault : goal.returns-clause-one_fault
returns-clause-one_fault c = bad_one
