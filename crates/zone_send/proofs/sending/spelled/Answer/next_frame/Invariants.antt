use Rattle.dns_name.specs.Page.{Parts}
use Rattle.dns_builder.specs.Seen.{draft_of}
use Rattle.zone_records.specs.Record.{Record}
use Rattle.zone_core.specs.Asked.{asked_by}
use Rattle.zone_send.specs.Sent.{with_soa_again}
use Rattle.zone_send.specs.SpelledSending.{AreItems, HoldsUpTo}
use Rattle.zone_send.proofs.sending.spelled.Answer.next_frame.Given as given

abbrev pub invariant-loop-next : given.invariant-loop-next
invariant-loop-next g l =
    (item : Record → Parts) → AreItems item (with_soa_again l.self.records.now)
    → HoldsUpTo g.Target.Composer.spelling (asked_by l.self.query.now) item l.self.max (with_soa_again l.self.records.now) l.start l.next
    (draft_of l.builder)
