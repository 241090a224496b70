use Rattle.std.proofs.Common.{arith}
use Rattle.zone_records.proofs.StoredRecords.{octets_to_place, octets_to_end}
use Rattle.zone_records.proofs.record_list.RecordList.octets_before.Goals as goal

pub returns-then-count-len : goal.returns-then-count-len
returns-then-count-len c =
    rw c.self.view_is at
    (octets_to_place _ _ _ c.args.count _ c.self.invariant (omega (arith, c.if-count-len.true, c.len.ensures)) c.index.ensures)

pub returns-else-count-len : goal.returns-else-count-len
returns-else-count-len c =
    let all = octets_to_end _ _ _ c.args.count c.self.invariant (omega (arith, c.if-count-len.false, c.len.ensures)) in
    omega (arith, c.len-else-count-len.ensures, rw c.self.view_is at all)
