use Rattle.std.proofs.Common.{◌∙◌}
use Rattle.dns_builder.proofs.Shown.{counts_are}
use Rattle.dns_builder.proofs.builder.SectionBuilder.counts.Goals as goal

pub returns-clause-built : goal.returns-clause-built
returns-clause-built g c built is = c.counts.ensures.octets ∙ counts_are is
