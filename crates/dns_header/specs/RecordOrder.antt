-- How records compare, for any types of owner and data: the TTL does not count.
use Rattle.std.specs.Prelude.{ℕ, Bool, List, nat_eq}
use Rattle.std.specs.Cmp.Lexicographic.{pointwise}
use Rattle.std.specs.Ordering.{on, nat_cmp, eq_of_both, then_cmp}
use Rattle.std.specs.declared.cmp.Ordering.{Ordering}
use Rattle.dns_label.specs.Name.{low}
use Rattle.dns_wire.specs.Order.{labels_order}
use Rattle.dns_header.specs.Record.{RecordOf}

module _ {Owner Data : Type 0} (labels : Owner → List (List ℕ)) where
  -- the same owner up to ASCII case (RFC 4343), class and data
  unfoldable pub records_eq : (Data → Data → Bool) → RecordOf Owner Data → RecordOf Owner Data → Bool
  records_eq equal =
      eq_of_both (on (λ (rr : RecordOf Owner Data). labels rr.owner) (on low (pointwise (pointwise nat_eq))))
      (eq_of_both (on (λ (rr : RecordOf Owner Data). rr.class) nat_eq) (on (λ (rr : RecordOf Owner Data). rr.rdata) equal))

  -- by owner, class and data
  unfoldable pub records_cmp : (Data → Data → Ordering) → RecordOf Owner Data → RecordOf Owner Data → Ordering
  records_cmp compare =
      then_cmp (on (λ (rr : RecordOf Owner Data). labels rr.owner) labels_order)
      (then_cmp (on (λ (rr : RecordOf Owner Data). rr.class) nat_cmp) (on (λ (rr : RecordOf Owner Data). rr.rdata) compare))

  -- by class, owner, type and data (RFC 4034 6)
  unfoldable pub canonical_records_cmp : (Data → ℕ) → (Data → Data → Ordering) → RecordOf Owner Data → RecordOf Owner Data → Ordering
  canonical_records_cmp rtype compare =
      then_cmp (on (λ (rr : RecordOf Owner Data). rr.class) nat_cmp)
      (then_cmp (on (λ (rr : RecordOf Owner Data). labels rr.owner) labels_order)
      (then_cmp (on (λ (rr : RecordOf Owner Data). rtype rr.rdata) nat_cmp) (on (λ (rr : RecordOf Owner Data). rr.rdata) compare)))
