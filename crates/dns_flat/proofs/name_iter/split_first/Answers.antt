use Rattle.std.proofs.Common.{◌≡◌, length, rules}
use borrow.Author.Tests.{tests}
use Rattle.dns_wire.proofs.FlatForms.{splits, no_split, flat-none}
use Rattle.dns_flat.proofs.name_iter.split_first.Goals as goal

pub returns-then-is_empty-clause-none : goal.returns-then-is_empty-clause-none
returns-then-is_empty-clause-none c = flat-none _ (search (rules, tests))

pub unreachable-requires : goal.unreachable-requires
unreachable-requires c =
    let some : length c.args.octets.now ≡ 0 → ⊥ = λ none. search (rules, tests) in
    no_split _ _ c.requires some c.in-Err.ensures.err

pub returns-clause-some : goal.returns-clause-some
returns-clause-some c = (splits _ _ _ c.requires c.in-Ok.ensures.ok).labels

pub returns-clause-left : goal.returns-clause-left
returns-clause-left c = (splits _ _ _ c.requires c.in-Ok.ensures.ok).are
