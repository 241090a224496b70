use Rattle.dns_header.proofs.Options.{options_of-written}
use Rattle.dns_header.proofs.laws.options_are_cut_from_their_octets.Goals as goal

pub returns : goal.returns
returns c = options_of-written
