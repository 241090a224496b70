-- Equality of record headers is an equivalence, their order is a total one that ties exactly the equal ones, and equal
-- ones hash alike.
use Rattle.std.specs.Prelude.{◌≡◌, ◌&&◌, ℕ, List, IsTrue, ◌∷◌, [], ◌++◌}
use Rattle.std.specs.Int.{to_be_bytes, w16}
use Rattle.std.proofs.Common.{ap}
use Rattle.std.specs.Cmp.{IsEquivalence, IsTotalOrder, on_equiv, on_total, and_equiv, nat_eq_equiv, nat_cmp_total, unsigned_ties, unsigned_Decides, first_so, second_so}
use Rattle.std.proofs.lemmas.Cmp.{then_total}
use Rattle.std.specs.Ordering.{is_eq, nat_cmp, ordering_then}
use Rattle.dns_wire.specs.Order.{labels_order}
use Rattle.dns_name.specs.OrderLaws.{labels_equivalence, labels_total, labels_ties, labels_alike}
use Rattle.dns_header.specs.Head.{Head, fixed_octets}
use Rattle.dns_header.specs.HeadOrder.{heads_eq, heads_cmp, head_keys}
use Rattle.dns_header.specs.QuestionLaws.{both_tie}

pub heads_equivalence : IsEquivalence heads_eq
heads_equivalence =
    and_equiv (on_equiv (λ (h : Head (List (List ℕ))). h.owner) labels_equivalence)
    (and_equiv (on_equiv (λ (h : Head (List (List ℕ))). h.rtype) nat_eq_equiv)
    (and_equiv (on_equiv (λ (h : Head (List (List ℕ))). h.class) nat_eq_equiv)
    (and_equiv (on_equiv (λ (h : Head (List (List ℕ))). h.ttl) nat_eq_equiv)
    (on_equiv (λ (h : Head (List (List ℕ))). h.data_len) nat_eq_equiv))))

pub heads_total : IsTotalOrder heads_cmp
heads_total =
    then_total (on_total (λ (h : Head (List (List ℕ))). h.owner) labels_total)
    (then_total (on_total (λ (h : Head (List (List ℕ))). h.rtype) nat_cmp_total)
    (then_total (on_total (λ (h : Head (List (List ℕ))). h.class) nat_cmp_total)
    (then_total (on_total (λ (h : Head (List (List ℕ))). h.ttl) nat_cmp_total)
    (on_total (λ (h : Head (List (List ℕ))). h.data_len) nat_cmp_total))))

pub heads_ties : (a b : Head (List (List ℕ))) → heads_eq a b ≡ is_eq (heads_cmp a b)
heads_ties a b =
    let owner = labels_ties a.owner b.owner in
    let rtype = unsigned_ties a.rtype b.rtype in
    let class = unsigned_ties a.class b.class in
    let ttl = unsigned_ties a.ttl b.ttl in
    let len = unsigned_ties a.data_len b.data_len in
    let last = ordering_then (nat_cmp a.ttl b.ttl) (nat_cmp a.data_len b.data_len) in
    let fourth = both_tie (nat_cmp a.ttl b.ttl) (nat_cmp a.data_len b.data_len) in
    let third = both_tie (nat_cmp a.class b.class) last in
    let second = both_tie (nat_cmp a.rtype b.rtype) (ordering_then (nat_cmp a.class b.class) last) in
    let first = both_tie (labels_order a.owner b.owner) (ordering_then (nat_cmp a.rtype b.rtype) (ordering_then (nat_cmp a.class b.class) last)) in
    cc

pub heads_alike : (a b : Head (List (List ℕ))) → IsTrue (heads_eq a b) → head_keys a ≡ head_keys b
heads_alike a b same =
    let behind = second_so _ _ same in
    let last = second_so _ _ behind in
    let least = second_so _ _ last in
    let owner = labels_alike a.owner b.owner (first_so _ _ same) in
    let rtype : a.rtype ≡ b.rtype = (unsigned_Decides a.rtype b.rtype).0 (first_so _ _ behind) in
    let class : a.class ≡ b.class = (unsigned_Decides a.class b.class).0 (first_so _ _ last) in
    let ttl : a.ttl ≡ b.ttl = (unsigned_Decides a.ttl b.ttl).0 (first_so _ _ least) in
    let len : a.data_len ≡ b.data_len = (unsigned_Decides a.data_len b.data_len).0 (second_so _ _ least) in
    λ i. ap (λ l. l) owner i ++ (fixed_octets (rtype i) (class i) (ttl i) ++ to_be_bytes w16 (len i)) ∷ []
