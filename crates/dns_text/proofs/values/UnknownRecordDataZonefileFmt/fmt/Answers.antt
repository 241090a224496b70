use Rattle.std.proofs.Common.{rules}
use Rattle.dns_text.specs.Documents.{unknown_tokens}
use Rattle.dns_text.proofs.values.UnknownRecordDataZonefileFmt.fmt.Goals as goal

pub returns : goal.returns
returns g c =
    c.block.ensures (unknown_tokens c.args.self.now.octets) (λ before behind result met. search rules)
