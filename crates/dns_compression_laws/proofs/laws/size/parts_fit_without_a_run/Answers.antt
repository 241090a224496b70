use Rattle.std.proofs.Common.{refl, true}
use Rattle.dns_name.specs.Spelling.{tree_spelling, hash_spelling}
use Rattle.dns_compression_laws.specs.Cost.{names_in}
use Rattle.dns_compression_laws.proofs.Sizes.{any_proper, names_proper}
use Rattle.dns_compression_laws.proofs.Joins.{fits_without}
use Rattle.dns_compression_laws.proofs.FullNames.{less_without}
use Rattle.dns_compression_laws.proofs.laws.size.parts_fit_without_a_run.Goals as goal

pub returns-clause-plain : goal.returns-clause-plain
returns-clause-plain c = λ before other run after alike. less_without before other run after alike

pub returns-clause-tree : goal.returns-clause-tree
returns-clause-tree c = λ before other run after max few alike fits.
    fits_without tree_spelling before other run after max refl few alike
    (any_proper (names_in before)) (any_proper (names_in run)) (any_proper (names_in after)) fits

pub returns-clause-hash : goal.returns-clause-hash
returns-clause-hash c = λ before other run after max few alike names_before names_run names_after fits.
    fits_without hash_spelling before other run after max refl few alike
    (names_proper true before names_before) (names_proper true run names_run) (names_proper true after names_after) fits
