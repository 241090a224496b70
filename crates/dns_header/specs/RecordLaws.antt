-- Equality of records is an equivalence, their order a total one that ties exactly the equal ones, if that holds of
-- their data; and equal records hash alike, if equal data does.
use Rattle.std.specs.Prelude.{◌≡◌, ◌&&◌, ◌∷◌, [], ◌++◌, ℕ, Bool, List, IsTrue}
use Rattle.std.specs.Int.{to_be_bytes, w16}
use Rattle.std.proofs.Common.{ap}
use Rattle.std.specs.Cmp.{IsPartialEquivalence, IsEquivalence, IsTotalOrder, partial_equiv_from_equiv, on_per, on_equiv, on_total, and_per, and_equiv, nat_eq_equiv, nat_cmp_total, unsigned_ties, unsigned_Decides, first_so, second_so}
use Rattle.std.proofs.lemmas.Cmp.{then_total}
use Rattle.std.specs.Ordering.{is_eq, eq_by_cmp, nat_cmp, ordering_then}
use Rattle.std.specs.declared.cmp.Ordering.{Ordering}
use Rattle.dns_wire.specs.Order.{labels_order}
use Rattle.dns_name.specs.OrderLaws.{labels_equivalence, labels_total, labels_ties, labels_alike}
use Rattle.dns_header.specs.Record.{RecordOf}
use Rattle.dns_header.specs.RecordOrder.{records_eq, records_cmp}
use Rattle.dns_header.specs.RecordParts.{record_keys}
use Rattle.dns_header.specs.QuestionLaws.{both_tie}

module _ {Owner Data : Type 0} (labels : Owner → List (List ℕ)) where
  pub records_partly_equivalent : {equal : Data → Data → Bool} → IsPartialEquivalence equal → IsPartialEquivalence (records_eq labels equal)
  unfolding records_eq
  records_partly_equivalent laws =
      and_per (on_per (λ (rr : RecordOf Owner Data). labels rr.owner) (partial_equiv_from_equiv labels_equivalence))
      (and_per (on_per (λ (rr : RecordOf Owner Data). rr.class) (partial_equiv_from_equiv nat_eq_equiv))
      (on_per (λ (rr : RecordOf Owner Data). rr.rdata) laws))

  pub records_equivalent : {equal : Data → Data → Bool} → IsEquivalence equal → IsEquivalence (records_eq labels equal)
  unfolding records_eq
  records_equivalent laws =
      and_equiv (on_equiv (λ (rr : RecordOf Owner Data). labels rr.owner) labels_equivalence)
      (and_equiv (on_equiv (λ (rr : RecordOf Owner Data). rr.class) nat_eq_equiv)
      (on_equiv (λ (rr : RecordOf Owner Data). rr.rdata) laws))

  pub records_total : {compare : Data → Data → Ordering} → IsTotalOrder compare → IsTotalOrder (records_cmp labels compare)
  unfolding records_cmp
  records_total laws =
      then_total (on_total (λ (rr : RecordOf Owner Data). labels rr.owner) labels_total)
      (then_total (on_total (λ (rr : RecordOf Owner Data). rr.class) nat_cmp_total)
      (on_total (λ (rr : RecordOf Owner Data). rr.rdata) laws))

  pub records_ties : (equal : Data → Data → Bool) (compare : Data → Data → Ordering) → ((x y : Data) → equal x y ≡ eq_by_cmp compare x y)
      → (a b : RecordOf Owner Data) → records_eq labels equal a b ≡ eq_by_cmp (records_cmp labels compare) a b
  unfolding records_eq records_cmp
  records_ties equal compare ties a b =
      let owner = labels_ties (labels a.owner) (labels b.owner) in
      let class = unsigned_ties a.class b.class in
      let rdata = ties a.rdata b.rdata in
      let behind = both_tie (nat_cmp a.class b.class) (compare a.rdata b.rdata) in
      let all = both_tie (labels_order (labels a.owner) (labels b.owner)) (ordering_then (nat_cmp a.class b.class) (compare a.rdata b.rdata)) in
      cc

  pub records_alike : (equal : Data → Data → Bool) (keys : Data → List (List ℕ)) → ((x y : Data) → IsTrue (equal x y) → keys x ≡ keys y)
      → (a b : RecordOf Owner Data) → IsTrue (records_eq labels equal a b) → record_keys labels keys a ≡ record_keys labels keys b
  unfolding records_eq
  records_alike equal keys alike a b same =
      let behind = second_so _ _ same in
      let owner = labels_alike (labels a.owner) (labels b.owner) (first_so _ _ same) in
      let class : a.class ≡ b.class = (unsigned_Decides a.class b.class).0 (first_so _ _ behind) in
      let rdata = alike a.rdata b.rdata (second_so _ _ behind) in
      λ i. ap (λ l. l) owner i ++ to_be_bytes w16 (class i) ∷ rdata i
