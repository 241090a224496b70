use Rattle.std.proofs.Common.{true, refl, arith, ◌∙◌}
use Rattle.dns_name.specs.Spelling.{tree_spelling, hash_spelling}
use Rattle.dns_compression_laws.specs.Cost.{same_name, names_in}
use Rattle.dns_compression_laws.proofs.Sameness.{sameness}
use Rattle.dns_compression_laws.proofs.Sizes.{written_size, any_proper, names_proper}
use Rattle.dns_compression_laws.proofs.DistinctSums.{parts_sum, suffixes_of}
use Rattle.dns_compression_laws.proofs.laws.size.written_octets_are_a_sum_over_suffixes.Goals as goal

pub returns-clause-tree : goal.returns-clause-tree
returns-clause-tree c = λ parts suffixes are fits.
    let sum = parts_sum tree_spelling parts suffixes are in
    written_size tree_spelling parts refl (any_proper (names_in parts)) (omega (arith, sum)) ∙ sum

pub returns-clause-hash : goal.returns-clause-hash
returns-clause-hash c = λ parts suffixes names are fits.
    let sum = parts_sum hash_spelling parts suffixes are in
    written_size hash_spelling parts refl (names_proper true parts names) (omega (arith, sum)) ∙ sum

pub returns-clause-cost : goal.returns-clause-cost
returns-clause-cost c = parts_sum

pub returns-clause-suffixes : goal.returns-clause-suffixes
returns-clause-suffixes c = λ s names. suffixes_of (same_name s) (sameness s) names
