-- How record headers compare: by owner, type, class, TTL and data length, owners up to ASCII case (RFC 4343).
use Rattle.std.specs.Prelude.{◌&&◌, ℕ, Bool, List, [], ◌∷◌, ◌++◌, nat_eq}
use Rattle.std.specs.Int.{to_be_bytes, w16}
use Rattle.std.specs.Cmp.Lexicographic.{pointwise}
use Rattle.std.specs.Ordering.{nat_cmp, on, ordering_then}
use Rattle.std.specs.declared.cmp.Ordering.{Ordering}
use Rattle.dns_label.specs.Name.{low, wire}
use Rattle.dns_wire.specs.Order.{labels_order}
use Rattle.dns_header.specs.Head.{Head, fixed_octets}

abbrev pub heads_eq : Head (List (List ℕ)) → Head (List (List ℕ)) → Bool
heads_eq a b =
    on low (pointwise (pointwise nat_eq)) a.owner b.owner
    && (nat_eq a.rtype b.rtype && (nat_eq a.class b.class && (nat_eq a.ttl b.ttl && nat_eq a.data_len b.data_len)))

abbrev pub heads_cmp : Head (List (List ℕ)) → Head (List (List ℕ)) → Ordering
heads_cmp a b =
    ordering_then (labels_order a.owner b.owner)
    (ordering_then (nat_cmp a.rtype b.rtype)
    (ordering_then (nat_cmp a.class b.class) (ordering_then (nat_cmp a.ttl b.ttl) (nat_cmp a.data_len b.data_len))))

-- what a hasher takes of a record header
abbrev pub head_keys : Head (List (List ℕ)) → List (List ℕ)
head_keys h = wire (low h.owner) ∷ (fixed_octets h.rtype h.class h.ttl ++ to_be_bytes w16 h.data_len) ∷ []
