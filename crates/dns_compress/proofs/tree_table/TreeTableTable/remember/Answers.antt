use Rattle.std.proofs.Common.{◌≡◌, ◌∙◌, ◌++◌, ap, sym, subst, true, ℕ, List, arith, length}
use Rattle.dns_octets.specs.Builder.{Known}
use Rattle.dns_label.specs.Name.{wire}
use Rattle.dns_name.specs.Spelling.{tree_spelling}
use Rattle.dns_compress.specs.Tables.{added, in_order}
use Rattle.dns_compress.specs.Listed.{listed}
use Rattle.dns_compress.proofs.Orders.{order_added}
use Rattle.dns_compress.proofs.tree_table.TreeTableTable.remember.Goals as goal

pub remember-requires-clause-order : goal.remember-requires-clause-order
remember-requires-clause-order c =
    let known : Known = listed c.args.self.now.suffixes.list in
    subst (λ (n : List (List ℕ)). in_order tree_spelling (known ++ added tree_spelling c.args.count c.args.place c.args.stop n) ≡ true)
    (sym c.requires.key)
    (order_added _ c.args.count c.args.place c.args.stop c.args._name.now c.args.self.now.suffixes.order c.requires.sound c.requires.order
    c.requires.behind)

pub remember-requires-clause-room : goal.remember-requires-clause-room
remember-requires-clause-room c = omega (arith, c.requires.room, ap (λ (n : List (List ℕ)). length (wire n)) c.requires.key)

pub returns : goal.returns
returns c =
    c.remember.ensures
    ∙ ap (λ (n : List (List ℕ)). listed c.args.self.now.suffixes.list ++ added tree_spelling c.args.count c.args.place c.args.stop n) c.requires.key
