use Rattle.std.proofs.Common.{List, ◌++◌, true, refl}
use Rattle.dns_name.specs.Spelling.{tree_spelling, hash_spelling}
use Rattle.dns_name.specs.Page.{Parts}
use Rattle.dns_compression_laws.specs.Alike.{HaveNames}
use Rattle.dns_compression_laws.specs.Cost.{names_in}
use Rattle.dns_compression_laws.proofs.Sizes.{any_proper, names_proper}
use Rattle.dns_compression_laws.proofs.Groups.{front_fits, back_fits, front_less, back_less, all_any}
use Rattle.dns_compression_laws.proofs.laws.size.groups_fit_in_part.Goals as goal

pub returns-clause-plain : goal.returns-clause-plain
returns-clause-plain c = λ head front back one. (front_less head (λ parts. parts) one front back, back_less head (λ parts. parts) one front back)

pub returns-clause-tree : goal.returns-clause-tree
returns-clause-tree c = λ head front back max few one fits.
    let head_proper = λ (group : List Parts). any_proper (names_in (head group)) in
    let proper = λ (parts : Parts) (is : Unit {0}). any_proper (names_in parts) in
    let all = all_any (front ++ back) in (
      front_fits (λ parts. Unit {0}) tree_spelling head (λ parts. parts) one head_proper proper max refl few front back all fits,
      back_fits (λ parts. Unit {0}) tree_spelling head (λ parts. parts) one head_proper proper max refl few front back all fits,
    )

pub returns-clause-hash : goal.returns-clause-hash
returns-clause-hash c = λ head front back max few one head_names all fits.
    let head_proper = λ (group : List Parts). names_proper true (head group) (head_names group) in
    let proper = λ (parts : Parts) (names : HaveNames parts). names_proper true parts names in (
      front_fits HaveNames hash_spelling head (λ parts. parts) one head_proper proper max refl few front back all fits,
      back_fits HaveNames hash_spelling head (λ parts. parts) one head_proper proper max refl few front back all fits,
    )
