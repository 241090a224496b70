use Rattle.std.proofs.Common.{◌<◌, ◌≤◌, ◌+◌, length, arith, rules}
use Rattle.zone_records.specs.Stored.{records_at}
use Rattle.dns_message.specs.Record.{IsRecord}
use Rattle.zone_records.proofs.Indexed.{all_at}
use Rattle.zone_records.proofs.StoredRecords.{part_to_next, part_to_end}
use Rattle.zone_records.proofs.record_list.RecordList.octets_at.Goals as goal

pub slice_bounds-result-count : goal.slice_bounds-result-count
slice_bounds-result-count c =
    let within : c.args.index < length (records_at c.self.inside.octets.items c.self.inside.places.items) = rw (← c.self.view_is) at c.requires in
    let more : c.args.index + 1 < length c.self.inside.places.items = omega (arith, c.if-index-len.true, c.len.ensures) in
    let part = part_to_next _ _ _ _ _ _ c.self.invariant within more c.index-start.ensures c.index.ensures in
    part.ordered

pub slice_bounds-result-start : goal.slice_bounds-result-start
slice_bounds-result-start c =
    let within : c.args.index < length (records_at c.self.inside.octets.items c.self.inside.places.items) = rw (← c.self.view_is) at c.requires in
    let more : c.args.index + 1 < length c.self.inside.places.items = omega (arith, c.if-index-len.true, c.len.ensures) in
    let part = part_to_next _ _ _ _ _ _ c.self.invariant within more c.index-start.ensures c.index.ensures in
    let ordered = part.ordered in let inside = part.within in search rules

pub slice_bounds-result-end : goal.slice_bounds-result-end
slice_bounds-result-end c =
    let within : c.args.index < length (records_at c.self.inside.octets.items c.self.inside.places.items) = rw (← c.self.view_is) at c.requires in
    let more : c.args.index + 1 < length c.self.inside.places.items = omega (arith, c.if-index-len.true, c.len.ensures) in
    let part = part_to_next _ _ _ _ _ _ c.self.invariant within more c.index-start.ensures c.index.ensures in
    let ordered = part.ordered in let inside = part.within in search rules

pub slice_bounds-result-count-else-index-len : goal.slice_bounds-result-count-else-index-len
slice_bounds-result-count-else-index-len c =
    let within : c.args.index < length (records_at c.self.inside.octets.items c.self.inside.places.items) = rw (← c.self.view_is) at c.requires in
    let last : length c.self.inside.places.items ≤ c.args.index + 1 = omega (arith, c.if-index-len.false, c.len.ensures) in
    let part = part_to_end _ _ _ _ _ c.self.invariant within last c.index-start.ensures in
    omega (arith, part.ordered)

pub slice_bounds-result-start-else-index-len : goal.slice_bounds-result-start-else-index-len
slice_bounds-result-start-else-index-len c =
    let within : c.args.index < length (records_at c.self.inside.octets.items c.self.inside.places.items) = rw (← c.self.view_is) at c.requires in
    let last : length c.self.inside.places.items ≤ c.args.index + 1 = omega (arith, c.if-index-len.false, c.len.ensures) in
    let part = part_to_end _ _ _ _ _ c.self.invariant within last c.index-start.ensures in
    let ordered = part.ordered in let inside = part.within in search rules

pub returns-then-index-len-clause-octets : goal.returns-then-index-len-clause-octets
returns-then-index-len-clause-octets c =
    let within : c.args.index < length (records_at c.self.inside.octets.items c.self.inside.places.items) = rw (← c.self.view_is) at c.requires in
    let more : c.args.index + 1 < length c.self.inside.places.items = omega (arith, c.if-index-len.true, c.len.ensures) in
    let part = part_to_next _ _ _ _ _ _ c.self.invariant within more c.index-start.ensures c.index.ensures in
    λ r found. rw c.as_slice-octets.ensures.value (part.is r (rw (← c.self.view_is) at found))

pub returns-then-index-len-clause-known : goal.returns-then-index-len-clause-known
returns-then-index-len-clause-known c = λ r found.
    all_at IsRecord _ c.args.index r (rw (← c.self.view_is) at found) c.self.invariant.each

pub returns-else-index-len-clause-octets : goal.returns-else-index-len-clause-octets
returns-else-index-len-clause-octets c =
    let within : c.args.index < length (records_at c.self.inside.octets.items c.self.inside.places.items) = rw (← c.self.view_is) at c.requires in
    let last : length c.self.inside.places.items ≤ c.args.index + 1 = omega (arith, c.if-index-len.false, c.len.ensures) in
    let part = part_to_end _ _ _ _ _ c.self.invariant within last c.index-start.ensures in
    λ r found. rw c.as_slice-octets.ensures.value (part.is r (rw (← c.self.view_is) at found))

pub returns-else-index-len-clause-known : goal.returns-else-index-len-clause-known
returns-else-index-len-clause-known c = λ r found.
    all_at IsRecord _ c.args.index r (rw (← c.self.view_is) at found) c.self.invariant.each
