use Rattle.dns_builder.proofs.ReadsBack.{readable_with_header}
use Rattle.dns_builder.proofs.laws.other_headers_are_readable.Goals as goal

pub returns : goal.returns
returns c = readable_with_header
