-- How questions compare: by name, type and class, names up to ASCII case (RFC 4343).
use Rattle.std.specs.Prelude.{◌&&◌, ℕ, Bool, List, [], ◌∷◌, ◌++◌, nat_eq}
use Rattle.std.specs.Int.{to_be_bytes, w16}
use Rattle.std.specs.Cmp.Lexicographic.{pointwise, slice_cmp}
use Rattle.std.specs.Ordering.{nat_cmp, on, ordering_then}
use Rattle.std.specs.declared.cmp.Ordering.{Ordering}
use Rattle.dns_label.specs.Name.{low, wire}
use Rattle.dns_wire.specs.Order.{labels_order}
use Rattle.dns_header.specs.Question.{Question}

abbrev pub questions_eq : Question → Question → Bool
questions_eq a b = on low (pointwise (pointwise nat_eq)) a.name b.name && (nat_eq a.qtype b.qtype && nat_eq a.qclass b.qclass)

abbrev pub questions_cmp : Question → Question → Ordering
questions_cmp a b = ordering_then (labels_order a.name b.name) (ordering_then (nat_cmp a.qtype b.qtype) (nat_cmp a.qclass b.qclass))

-- the canonical order, in which names compare as their octets in lower case do (RFC 4034 6.2)
abbrev pub canonical_questions_cmp : Question → Question → Ordering
canonical_questions_cmp a b =
    ordering_then (slice_cmp nat_cmp (wire (low a.name)) (wire (low b.name)))
    (ordering_then (nat_cmp a.qtype b.qtype) (nat_cmp a.qclass b.qclass))

-- what a hasher takes of a question
abbrev pub question_keys : Question → List (List ℕ)
question_keys q = wire (low q.name) ∷ (to_be_bytes w16 q.qtype ++ to_be_bytes w16 q.qclass) ∷ []
