use Rattle.dns_name.specs.Spelling.{tree_spelling, hash_spelling}
use Rattle.std.proofs.Common.{true, refl}
use Rattle.dns_compression_laws.specs.Cost.{names_in}
use Rattle.dns_compression_laws.proofs.Sizes.{written_size, any_proper, names_proper}
use Rattle.dns_compression_laws.proofs.laws.size.written_octets_are_the_cost.Goals as goal

pub returns-clause-tree : goal.returns-clause-tree
returns-clause-tree c = λ parts fits. written_size tree_spelling parts refl (any_proper (names_in parts)) fits

pub returns-clause-hash : goal.returns-clause-hash
returns-clause-hash c = λ parts names fits. written_size hash_spelling parts refl (names_proper true parts names) fits
