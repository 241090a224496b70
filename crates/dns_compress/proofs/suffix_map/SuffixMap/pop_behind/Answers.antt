use Rattle.std.proofs.Common.{◌≡◌, ◌-◌, ◌∙◌, ◌++◌, ◌∷◌, [], ap, sym, subst, true, ℕ, List, length, take, drop, set}
use Rattle.dns_octets.specs.Builder.{Standing, Known, before}
use Rattle.dns_name.specs.Spelling.{tree_spelling}
use Rattle.dns_compress.specs.declared.written.Written.{Written}
use Rattle.dns_compress.specs.Tables.{in_order}
use Rattle.dns_compress.specs.Listed.{listed}
use Rattle.dns_compress.specs.SuffixIndex.{IsIndex, AreHashes}
use Rattle.dns_compress.proofs.Index.{index_pop, hashes_pop}
use Rattle.dns_compress.proofs.InOrder.{in_order-pop, before-whole}
use Rattle.dns_compress.proofs.suffix_map.SuffixMap.pop_behind.Goals as goal

pub returns-then-last-len-clause-all : goal.returns-then-last-len-clause-all
returns-then-last-len-clause-all c _ =
    let all : Known = listed c.args.self.now.list in
    let octets : List ℕ = c.args.self.now.list.octets.items in
    let one : Written = c.in-Some.last.now in
    let last : Standing = record { suffix = drop (length octets - one.len) octets; place = one.place; stop = one.stop } in
    let is : all ≡ take (length all - 1) all ++ last ∷ [] = c.in-Some.ensures.some in
    ap (before c.args.len) is
    ∙ before-whole tree_spelling c.args.len (take (length all - 1) all) last
    (subst (λ (l : Known). in_order tree_spelling l ≡ true) is c.args.self.now.order) c.if-last-len.true
    ∙ sym is

pub invariant_of-self-2 : goal.invariant_of-self-2
invariant_of-self-2 c =
    let heads : List ℕ = c.args.self.now.heads.items in
    let written : List Written = c.args.self.now.list.written.items in
    let front : List Written = take (length written - 1) written in
    let one : Written = c.in-Some.last.now in
    let all : Known = listed c.args.self.now.list in
    let octets : List ℕ = c.args.self.now.list.octets.items in
    let last : Standing = record { suffix = drop (length octets - one.len) octets; place = one.place; stop = one.stop } in
    let is : all ≡ take (length all - 1) all ++ last ∷ [] = c.in-Some.ensures.some in
    record {
      index = subst (λ (l : List Written). IsIndex l (set heads c.bucket.result one.older)) (sym c.pop.ensures.written)
          (subst (λ n. IsIndex front (set heads n one.older)) (sym c.bucket.ensures.is)
          (index_pop front heads one (subst (λ (l : List Written). IsIndex l heads) c.in-Some.ensures.written c.args.self.now.index)));
      hashes = subst (λ (l : List Written). AreHashes c.args.self.now.seed l (listed c.pop.new.self)) (sym c.pop.ensures.written)
          (subst (AreHashes c.args.self.now.seed front) (sym c.pop.ensures.front) (hashes_pop c.args.self.now.seed written all c.args.self.now.hashes));
      order = subst (λ (l : Known). in_order tree_spelling l ≡ true) (sym c.pop.ensures.front)
          (in_order-pop tree_spelling (take (length all - 1) all) last
          (subst (λ (l : Known). in_order tree_spelling l ≡ true) is c.args.self.now.order)).0;
    }
