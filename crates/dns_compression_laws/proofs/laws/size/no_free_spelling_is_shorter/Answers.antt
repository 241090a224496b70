use Rattle.std.proofs.Common.{refl, true}
use Rattle.dns_name.specs.Spelling.{tree_spelling, hash_spelling}
use Rattle.dns_compression_laws.specs.Cost.{names_in}
use Rattle.dns_compression_laws.proofs.Sizes.{any_proper, names_proper}
use Rattle.dns_compression_laws.proofs.FreeCosts.{free_lower, free_no_shorter}
use Rattle.dns_compression_laws.proofs.OwnSpelling.{own_is_free}
use Rattle.dns_compression_laws.proofs.laws.size.no_free_spelling_is_shorter.Goals as goal

pub returns-clause-cost : goal.returns-clause-cost
returns-clause-cost c = λ s parts message free. free_lower s message parts free

pub returns-clause-tree : goal.returns-clause-tree
returns-clause-tree c = λ parts message free few. free_no_shorter tree_spelling message parts refl (any_proper (names_in parts)) free few

pub returns-clause-hash : goal.returns-clause-hash
returns-clause-hash c = λ parts message names free few. free_no_shorter hash_spelling message parts refl (names_proper true parts names) free few

pub returns-clause-own : goal.returns-clause-own
returns-clause-own c = λ s parts exact. own_is_free s exact parts
