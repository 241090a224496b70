use Rattle.dns_sections.specs.Seen.{records_at}
use Rattle.dns_sections.proofs.Last.{IsLastBefore}
use Rattle.dns_sections.proofs.message.last.last_record.Given as goal

abbrev pub invariant-loop-record : goal.invariant-loop-record
invariant-loop-record l = IsLastBefore (records_at l.fn.section).cursor l.last (records_at l.record-iterator).cursor
