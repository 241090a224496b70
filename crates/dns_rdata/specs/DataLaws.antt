-- The laws of how data compares: an equivalence, a total order that ties exactly the data that is equal, and equal
-- data is hashed alike.
use Rattle.std.proofs.Common.{◌≡◌, ℕ, Bool, true, false, List, [], ◌∷◌, ◌++◌, nat_eq, refl, rules}
use Rattle.std.proofs.lemmas.Bool.{and_parts}
use Rattle.std.proofs.lemmas.Bool.Decides.{Decides-eqb}
use Rattle.std.proofs.lemmas.Cmp.{and_equiv, then_total, nat_cmp_total, nat_eq_equiv}
use Rattle.std.specs.Bool.{IsTrue}
use Rattle.std.specs.Cmp.{IsEquivalence, IsTotalOrder, on_equiv, on_total, bool_eq_equiv, bool_cmp_total, both_tied}
use Rattle.std.specs.Cmp.Lexicographic.{pointwise, slice_cmp, lists_equiv, lists_total, lists_ties, nat_list_cmp_total, texts_ties}
use Rattle.std.specs.Cmp.Rules.{comparing}
use Rattle.std.proofs.Math.Bool.{beq}
use Rattle.std.specs.Hash as fed
use Rattle.std.specs.Ordering.{is_eq, nat_cmp, bool_cmp}
use lib.Pointwise.{pointwise_decides, bytes_decides}
use Rattle.dns_rdata.specs.Data.{Data, typed, unknown_data, number_of, is_unknown, counted, data_eq, data_cmp, data_hashed}

pub data_equivalent : IsEquivalence data_eq
unfolding data_eq
data_equivalent = and_equiv (on_equiv number_of nat_eq_equiv)
    (and_equiv (on_equiv is_unknown bool_eq_equiv) (on_equiv counted (lists_equiv (lists_equiv nat_eq_equiv))))

pub data_total : IsTotalOrder data_cmp
unfolding data_cmp
data_total = then_total (on_total number_of nat_cmp_total)
    (then_total (on_total is_unknown bool_cmp_total) (on_total counted (lists_total nat_list_cmp_total)))

number_ties : (m n : ℕ) → nat_eq m n ≡ is_eq (nat_cmp m n)
number_ties m n = Prim.search (comparing, rules)

kind_ties : (a b : Bool) → beq a b ≡ is_eq (bool_cmp a b)
kind_ties false false = refl
kind_ties false true = refl
kind_ties true false = refl
kind_ties true true = refl

pub data_ties : (rdata other : Data) → data_eq rdata other ≡ is_eq (data_cmp rdata other)
unfolding data_eq data_cmp
data_ties rdata other = both_tied _ _ _ _ (number_ties (number_of rdata) (number_of other))
    (both_tied _ _ _ _ (kind_ties (is_unknown rdata) (is_unknown other))
    (lists_ties (slice_cmp nat_cmp) texts_ties (counted rdata) (counted other)))

-- what equal data has in common
record Same (rdata other : Data) : Type 0 where
  number : number_of rdata ≡ number_of other
  kind : beq (is_unknown rdata) (is_unknown other) ≡ true
  counts : counted rdata ≡ counted other

same : (rdata other : Data) → IsTrue (data_eq rdata other) → Same rdata other
unfolding data_eq
same rdata other is = record {
  number = (Decides-eqb _ _).0 (and_parts _ _ is).0;
  kind = (and_parts _ _ (and_parts _ _ is).1).0;
  counts = (pointwise_decides {E = pointwise nat_eq} bytes_decides (counted rdata) (counted other)).0 (and_parts _ _ (and_parts _ _ is).1).1;
}

abbrev first : List (List ℕ) → List ℕ
first [] = []
first (octets ∷ others) = octets

differ : false ≡ true → ⊥
differ is = cc

alike : (rdata other : Data) → Same rdata other → data_hashed rdata ≡ data_hashed other
alike (typed number row) (typed other fields) has = λ i. fed.u16 (has.number i) ++ has.counts i
alike (typed number row) (unknown_data other) has = absurd (differ has.kind)
alike (unknown_data unknown) (typed other fields) has = absurd (differ has.kind)
alike (unknown_data unknown) (unknown_data other) has = λ i.
    fed.u16 (has.number i) ++ (fed.u16 (has.number i) ++ fed.slice fed.u8 (first (has.counts i)))

pub data_alike : (rdata other : Data) → IsTrue (data_eq rdata other) → data_hashed rdata ≡ data_hashed other
data_alike rdata other is = alike rdata other (same rdata other is)
