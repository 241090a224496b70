use Rattle.std.proofs.Common.{◌≡◌, ◌∙◌, ◌++◌, ap, sym, subst, true, ℕ, List, arith, length}
use Rattle.dns_octets.specs.Builder.{Known}
use Rattle.dns_label.specs.Name.{wire}
use Rattle.dns_wire.proofs.LowNames.{length-wire-low}
use Rattle.dns_name.specs.Spelling.{tree_spelling, hash_spelling}
use Rattle.dns_compress.specs.Tables.{added, in_order}
use Rattle.dns_compress.specs.Listed.{listed}
use Rattle.dns_compress.proofs.Adding.{added-lowered}
use Rattle.dns_compress.proofs.Orders.{order_added}
use Rattle.dns_compress.proofs.hash_table.HashTableTable.remember.Goals as goal

pub remember-requires-clause-order : goal.remember-requires-clause-order
remember-requires-clause-order c =
    let same : added hash_spelling c.args.count c.args.place c.args.stop c.args.name.now
    ≡ added tree_spelling c.args.count c.args.place c.args.stop c.args.key.now =
    added-lowered c.args.count c.args.place c.args.stop c.args.name.now
    ∙ ap (λ (n : List (List ℕ)). added tree_spelling c.args.count c.args.place c.args.stop n) (sym c.requires.key) in
    subst (λ (l : Known). in_order tree_spelling (listed c.args.self.now.suffixes.list ++ l) ≡ true) same
    (order_added _ c.args.count c.args.place c.args.stop c.args.name.now c.args.self.now.suffixes.order c.requires.sound c.requires.order
    c.requires.behind)

pub remember-requires-clause-room : goal.remember-requires-clause-room
remember-requires-clause-room c =
    omega (
      arith,
      c.requires.room,
      length-wire-low c.args.name.now c.len-len.ensures.name,
      ap (λ (n : List (List ℕ)). length (wire n)) c.requires.key,
    )

pub returns : goal.returns
returns c =
    c.remember.ensures
    ∙ ap (λ (l : Known). listed c.args.self.now.suffixes.list ++ l)
    (ap (λ (n : List (List ℕ)). added tree_spelling c.args.count c.args.place c.args.stop n) c.requires.key
    ∙ sym (added-lowered c.args.count c.args.place c.args.stop c.args.name.now))
