use Rattle.std.proofs.Common.{◌∙◌}
use Rattle.dns_builder.proofs.Shown.{header_is}
use Rattle.dns_builder.proofs.builder.SectionBuilder.header.Goals as goal

pub returns-clause-built : goal.returns-clause-built
returns-clause-built g c built is = c.header.ensures.octets ∙ header_is is
