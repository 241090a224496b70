use Rattle.std.proofs.Common.{arith}
use Rattle.zone_records.specs.Typed.{HasLawfulData}
use Rattle.zone_records.proofs.Indexed.{all_at}
use Rattle.zone_send.proofs.SpelledStreams.{again_last}
use Rattle.zone_send.proofs.sending.spelled.Answer.record_at.Goals as goal

pub returns-then-index-len-clause-lawful : goal.returns-then-index-len-clause-lawful
returns-then-index-len-clause-lawful c =
    all_at HasLawfulData c.args.self.now.records.now c.args.index c.record_at.result c.record_at.ensures c.requires.lawful

pub returns-else-index-len-clause-there : goal.returns-else-index-len-clause-there
returns-else-index-len-clause-there c =
    again_last c.args.self.now.records.now c.args.index c.record_at-else-index-len.result c.record_at-else-index-len.ensures
    (omega (arith, c.if-index-len.false, c.len.ensures.count)) c.requires.within

pub returns-else-index-len-clause-lawful : goal.returns-else-index-len-clause-lawful
returns-else-index-len-clause-lawful c =
    all_at HasLawfulData c.args.self.now.records.now 0 c.record_at-else-index-len.result c.record_at-else-index-len.ensures c.requires.lawful
