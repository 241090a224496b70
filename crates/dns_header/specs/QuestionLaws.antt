-- Equality of questions is an equivalence, their order is a total one that ties exactly the equal ones, and equal ones
-- hash alike.
use Rattle.std.specs.Prelude.{◌≡◌, ◌&&◌, IsTrue, ◌∷◌, [], ◌++◌}
use Rattle.std.specs.Int.{to_be_bytes, w16}
use Rattle.std.proofs.Common.{refl, ap}
use Rattle.std.specs.Cmp.{IsEquivalence, IsTotalOrder, on_equiv, on_total, and_equiv, nat_eq_equiv, nat_cmp_total, unsigned_ties, unsigned_Decides, first_so, second_so}
use Rattle.std.proofs.lemmas.Cmp.{then_total}
use Rattle.std.specs.Ordering.{is_eq, nat_cmp, ordering_then}
use Rattle.std.specs.declared.cmp.Ordering.{Ordering}
use Rattle.std.specs.declared.cmp.Ordering.TheVariants.{Less, Equal, Greater}
use Rattle.dns_wire.specs.Order.{labels_order}
use Rattle.dns_name.specs.OrderLaws.{labels_equivalence, labels_total, labels_ties, labels_alike}
use Rattle.dns_header.specs.Question.{Question}
use Rattle.dns_header.specs.QuestionOrder.{questions_eq, questions_cmp, question_keys}

pub questions_equivalence : IsEquivalence questions_eq
questions_equivalence =
    and_equiv (on_equiv (λ (q : Question). q.name) labels_equivalence)
    (and_equiv (on_equiv (λ (q : Question). q.qtype) nat_eq_equiv) (on_equiv (λ (q : Question). q.qclass) nat_eq_equiv))

pub questions_total : IsTotalOrder questions_cmp
questions_total =
    then_total (on_total (λ (q : Question). q.name) labels_total)
    (then_total (on_total (λ (q : Question). q.qtype) nat_cmp_total) (on_total (λ (q : Question). q.qclass) nat_cmp_total))

pub both_tie : (r s : Ordering) → is_eq (ordering_then r s) ≡ (is_eq r && is_eq s)
both_tie Less s = refl
both_tie Equal s = refl
both_tie Greater s = refl

pub questions_ties : (a b : Question) → questions_eq a b ≡ is_eq (questions_cmp a b)
questions_ties a b =
    let name = labels_ties a.name b.name in
    let qtype = unsigned_ties a.qtype b.qtype in
    let qclass = unsigned_ties a.qclass b.qclass in
    let behind = both_tie (nat_cmp a.qtype b.qtype) (nat_cmp a.qclass b.qclass) in
    let all = both_tie (labels_order a.name b.name) (ordering_then (nat_cmp a.qtype b.qtype) (nat_cmp a.qclass b.qclass)) in
    cc

pub questions_alike : (a b : Question) → IsTrue (questions_eq a b) → question_keys a ≡ question_keys b
questions_alike a b same =
    let behind = second_so _ _ same in
    let name = labels_alike a.name b.name (first_so _ _ same) in
    let qtype : a.qtype ≡ b.qtype = (unsigned_Decides a.qtype b.qtype).0 (first_so _ _ behind) in
    let qclass : a.qclass ≡ b.qclass = (unsigned_Decides a.qclass b.qclass).0 (second_so _ _ behind) in
    λ i. ap (λ l. l) name i ++ (to_be_bytes w16 (qtype i) ++ to_be_bytes w16 (qclass i)) ∷ []
