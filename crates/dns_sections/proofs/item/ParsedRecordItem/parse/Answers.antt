use Rattle.dns_sections.proofs.Walks.{refusal}
use Rattle.dns_sections.proofs.item.ParsedRecordItem.parse.Goals as goal

pub returns-clause-err : goal.returns-clause-err
returns-clause-err c = refusal _ _ c.parse.result c.parse.ensures.err c.parse.ensures.short
