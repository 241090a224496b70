use Rattle.dns_compression_laws.proofs.ReadParts.{exact_parts}
use Rattle.dns_compression_laws.proofs.laws.read_back.exact_parts_are_the_same.Goals as goal

pub returns : goal.returns
returns c = exact_parts
