use Rattle.std.proofs.Common.{refl}
use Rattle.dns_sections.specs.Sections.{IsOutOfReach}
use Rattle.dns_sections.specs.Seen.{records_at}
use Rattle.dns_sections.proofs.Walks.{refused}
use Rattle.dns_sections.proofs.Reached.{goes-on}
use Rattle.dns_sections.proofs.message.Message.authority.Goals as goal

pub returns-in_err-answer : goal.returns-in_err-answer
returns-in_err-answer g c =
    refused c.from_residual.result c.in_err-answer.field-0.0 _ _ c.from_residual.ensures.1 (IsOutOfReach.earlier refl c.in_err-answer.ensures)

pub returns : goal.returns
returns g c = goes-on records_at c.following.result refl c.in_ok-answer.ensures c.following.ensures
