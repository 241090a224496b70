use Rattle.std.proofs.Common.{rules}
use Rattle.zone_records.proofs.StoredRecords.{part_between}
use Rattle.zone_records.proofs.record_list.RecordList.octets_between.Goals as goal

pub slice_bounds-result-count : goal.slice_bounds-result-count
slice_bounds-result-count c =
    let part = part_between _ _ _ _ _ _ _ c.self.invariant c.requires.ordered (rw (← c.self.view_is) at c.octets_before-start.ensures)
    (rw (← c.self.view_is) at c.octets_before-end.ensures) in
    part.ordered

pub slice_bounds-result-start : goal.slice_bounds-result-start
slice_bounds-result-start c =
    let part = part_between _ _ _ _ _ _ _ c.self.invariant c.requires.ordered (rw (← c.self.view_is) at c.octets_before-start.ensures)
    (rw (← c.self.view_is) at c.octets_before-end.ensures) in
    let ordered = part.ordered in let inside = part.within in search rules

pub slice_bounds-result-end : goal.slice_bounds-result-end
slice_bounds-result-end c =
    let part = part_between _ _ _ _ _ _ _ c.self.invariant c.requires.ordered (rw (← c.self.view_is) at c.octets_before-start.ensures)
    (rw (← c.self.view_is) at c.octets_before-end.ensures) in
    let ordered = part.ordered in let inside = part.within in search rules

pub returns : goal.returns
returns c =
    let part = part_between _ _ _ _ _ _ _ c.self.invariant c.requires.ordered (rw (← c.self.view_is) at c.octets_before-start.ensures)
    (rw (← c.self.view_is) at c.octets_before-end.ensures) in
    rw c.as_slice.ensures.value (rw c.self.view_is at part.are)
