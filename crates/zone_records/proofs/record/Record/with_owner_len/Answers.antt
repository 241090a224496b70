use Rattle.zone_records.proofs.StoredRecords.{stored_of, record_in_whole}
use Rattle.zone_records.proofs.record.Record.with_owner_len.Goals as goal

pub invariant_of-result : goal.invariant_of-result
invariant_of-result c = stored_of c.args.octets.now c.args.owner_len c.requires.0 c.requires.1 c.requires.2 c.requires.3

pub returns : goal.returns
returns c = λ r is whole. record_in_whole c.args.octets.now r is whole
