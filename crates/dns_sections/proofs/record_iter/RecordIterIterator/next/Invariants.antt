use Rattle.std.proofs.Common.{◌≡◌, ◌≤◌}
use Rattle.std.specs.Iterator.{size}
use Rattle.dns_sections.specs.Cursor.{items_left}
use Rattle.dns_sections.specs.Given.{IsTaken}
use Rattle.dns_sections.specs.Seen.{asked_at, only_in}
use Rattle.dns_sections.proofs.Asked.{GivesThere}
use Rattle.dns_sections.proofs.record_iter.RecordIterIterator.next.Given as goal

abbrev pub invariant-loop-item : goal.invariant-loop-item
invariant-loop-item g l = record {
  section : (asked_at l.self).section ≡ (asked_at l.initial.self).section;
  only : only_in l.self ≡ only_in l.initial.self;
  gives : GivesThere (IsTaken g.Data.ParseRecordData.takes (only_in l.initial.self)) g.Data.ParseRecordData.reads (asked_at l.self).cursor
      (asked_at l.initial.self).cursor;
  less : size (items_left (asked_at l.self).cursor) ≤ size (items_left (asked_at l.initial.self).cursor);
}

abbrev pub decreases-loop-item : goal.decreases-loop-item
decreases-loop-item g l = size (items_left (asked_at l.self).cursor)
