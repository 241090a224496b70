use Rattle.std.proofs.Common.{◌-◌, ◌≤◌, length}
use Rattle.dns_name.specs.Page.{Parts}
use Rattle.zone_records.specs.Record.{Record}
use Rattle.zone_core.specs.Asked.{asked_by}
use Rattle.zone_send.specs.Sent.{with_soa_again}
use Rattle.zone_send.specs.SpelledSending.{AreItems, SendsUpTo}
use Rattle.zone_send.proofs.sending.spelled.Answer.send.Given as given

abbrev pub invariant-loop-next : given.invariant-loop-next
invariant-loop-next g l = record {
  within : l.next ≤ length (with_soa_again l.self.records.now);
  sends : (item : Record → Parts) → AreItems item (with_soa_again l.self.records.now)
      → SendsUpTo g.Target.Composer.spelling (asked_by l.self.query.now) item l.self.max (with_soa_again l.self.records.now) l.next l.stream.items;
}

abbrev pub decreases-loop-next : given.decreases-loop-next
decreases-loop-next g l = length (with_soa_again l.self.records.now) - l.next
