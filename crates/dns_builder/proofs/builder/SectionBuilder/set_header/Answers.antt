use Rattle.std.proofs.Common.{ap}
use Rattle.dns_builder.specs.Built.{Draft}
use Rattle.dns_builder.proofs.NewHeader.{headed}
use Rattle.dns_builder.proofs.builder.SectionBuilder.set_header.Goals as goal

pub returns-clause-built : goal.returns-clause-built
returns-clause-built g c built is =
    headed _ _ is c.set_header.ensures.four (ap (λ (d : Draft). d.page) c.set_header.ensures.draft)
    (ap (λ (d : Draft). d.starts) c.set_header.ensures.draft)
