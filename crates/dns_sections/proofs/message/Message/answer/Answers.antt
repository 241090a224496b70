use Rattle.dns_sections.specs.Seen.{records_at}
use Rattle.dns_sections.proofs.Reached.{answers}
use Rattle.dns_sections.proofs.message.Message.answer.Goals as goal

pub returns : goal.returns
returns g c = answers records_at c.next_section.result c.question.ensures c.next_section.ensures
