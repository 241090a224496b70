use Rattle.std.proofs.Common.{refl}
use Rattle.dns_sections.specs.Sections.{IsOutOfReach}
use Rattle.dns_sections.specs.Seen.{records_at}
use Rattle.dns_sections.proofs.Walks.{refused}
use Rattle.dns_sections.proofs.Reached.{goes-on}
use Rattle.dns_sections.proofs.message.Message.additional.Goals as goal

pub returns-in_err-authority : goal.returns-in_err-authority
returns-in_err-authority g c =
    refused c.from_residual.result c.in_err-authority.field-0.0 _ _ c.from_residual.ensures.1 (IsOutOfReach.earlier refl c.in_err-authority.ensures)

pub returns : goal.returns
returns g c = goes-on records_at c.following.result refl c.in_ok-authority.ensures c.following.ensures
