use Rattle.std.proofs.Common.{◌≡◌}
use Rattle.std.proofs.lemmas.Bool.{false≢true}
use Rattle.dns_octets.specs.Parser.{rest_of}
use Rattle.dns_rdata_more.proofs.Built.{none_keeps}
use Rattle.dns_rdata_more.proofs.Whole.{at_start}
use Rattle.dns_rdata_more.proofs.build.last_value.Goals as goal

pub returns-in-Err-clause-keeps : goal.returns-in-Err-clause-keeps
returns-in-Err-clause-keeps c =
    let whole : rest_of c.from_ref.result ≡ c.args.octets.now = at_start c.from_ref.result c.from_ref.ensures.place c.from_ref.ensures.octets in (
      λ is. absurd (false≢true is),
      λ keeps. absurd (none_keeps c.args.form (rest_of c.from_ref.result) c.args.octets.now c.requires whole c.in-Err.ensures.err keeps),
    )
