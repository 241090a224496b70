use Rattle.std.proofs.Common.{◌∙◌, sym}
use Rattle.dns_name.specs.ParsedName.{labels_of}
use Rattle.dns_header.specs.Record.{with_labels}
use Rattle.dns_sections.specs.Firsts.{GivesFirst}
use Rattle.dns_sections.specs.Seen.{asked_at, only_in, records_at}
use Rattle.dns_sections.proofs.FirstGiven.{some-given, none-given}
use Rattle.dns_sections.proofs.message.Message.contains_answer.Goals as goal

pub returns-in-Ok-clause-yes : goal.returns-in-Ok-clause-yes
returns-in-Ok-clause-yes g c = λ some.
    some-given g.Data.ParseRecordData.takes g.Data.ParseRecordData.reads (records_at c.in-Ok.answer) (asked_at c.limit_to.result)
    (asked_at c.next.new.self).cursor (only_in c.limit_to.result) c.in-Ok.ensures c.limit_to.ensures.at c.limit_to.ensures.any_class
    (with_labels labels_of) c.next.result c.next.ensures.steps.2 (sym c.is_some.ensures ∙ some)

pub returns-in-Ok-clause-no : goal.returns-in-Ok-clause-no
returns-in-Ok-clause-no g c = λ none.
    none-given g.Data.ParseRecordData.takes g.Data.ParseRecordData.reads (records_at c.in-Ok.answer) (asked_at c.limit_to.result)
    (asked_at c.next.new.self).cursor (only_in c.limit_to.result) c.in-Ok.ensures c.limit_to.ensures.at c.limit_to.ensures.any_class
    (with_labels labels_of) c.next.result c.next.ensures.steps.2 (sym c.is_some.ensures ∙ none)

pub returns-in-Err-clause-no : goal.returns-in-Err-clause-no
returns-in-Err-clause-no g c = λ none. GivesFirst.out_of_reach c.in-Err.ensures
