use Rattle.std.specs.Iterator.{size}
use Rattle.dns_sections.specs.Copied.{CopiesFirst}
use Rattle.dns_sections.specs.Cursor.{items_left}
use Rattle.dns_sections.specs.Seen.{records_at}
use Rattle.dns_sections.proofs.message.copied.copy_section.Given as goal

abbrev pub invariant-loop-record : goal.invariant-loop-record
invariant-loop-record g l = record {
  callable : goal.F-IsAlwaysCallable g l.op;
  copied : CopiesFirst (goal.F-step g) g.R.ComposeRecord.written g.T.RecordTarget.pushes (records_at l.initial.section).cursor
      (l.initial.op, l.initial.target) (l.op, l.target) (records_at l.section).cursor;
}

abbrev pub decreases-loop-record : goal.decreases-loop-record
decreases-loop-record g l = size (items_left (records_at l.section).cursor)
