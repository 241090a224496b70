use Rattle.zone_core.proofs.OneTransfer.{answer_one, transfer_one}
use Rattle.zone_core.proofs.laws.transfer.transfers_are_one.Goals as goal

pub returns-clause-answers : goal.returns-clause-answers
returns-clause-answers c = answer_one

pub returns-clause-transfers : goal.returns-clause-transfers
returns-clause-transfers c = transfer_one
