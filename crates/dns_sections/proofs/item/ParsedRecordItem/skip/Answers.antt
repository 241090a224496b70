use Rattle.dns_sections.proofs.Walks.{refusal}
use Rattle.dns_sections.proofs.item.ParsedRecordItem.skip.Goals as goal

pub returns-clause-err : goal.returns-clause-err
returns-clause-err c = refusal _ _ c.skip.result c.skip.ensures.err c.skip.ensures.short
