use Rattle.std.proofs.Common.{inr}
use Rattle.dns_name.specs.ParsedName.{labels_of}
use Rattle.dns_header.specs.ParsedRecord.{Parsed, IsRecordOf, HasNoData}
use Rattle.dns_header.specs.Record.{with_labels}
use Rattle.dns_sections.specs.Message.{octets_in}
use Rattle.dns_sections.proofs.Last.{last-read, last-unread}
use Rattle.dns_sections.proofs.message.Message.get_last_additional.Goals as goal

pub returns-in-Ok-clause-some : goal.returns-in-Ok-clause-some
returns-in-Ok-clause-some g c =
    last-read g.Data.ParseRecordData.takes (λ (parsed : Parsed) rr. IsRecordOf g.Data.ParseRecordData.reads parsed (with_labels labels_of rr))
    (octets_in g.Octs.Octets.list c.args.self.now) c.in-Some.record c.in-Some.ensures c.in-Ok.found c.in-Ok.ensures.taken c.in-Ok.ensures.ok

pub returns-in-Ok-clause-none : goal.returns-in-Ok-clause-none
returns-in-Ok-clause-none g c =
    last-unread g.Data.ParseRecordData.takes (λ (parsed : Parsed) rr. IsRecordOf g.Data.ParseRecordData.reads parsed (with_labels labels_of rr))
    (octets_in g.Octs.Octets.list c.args.self.now) c.in-Some.record c.in-Some.ensures c.in-Ok.found c.in-Ok.ensures.taken
    (HasNoData g.Data.ParseRecordData.reads)

pub returns-in-Err-clause-none : goal.returns-in-Err-clause-none
returns-in-Err-clause-none g c = inr (c.in-Some.record, c.in-Some.ensures, inr c.in-Err.ensures.err.1)
