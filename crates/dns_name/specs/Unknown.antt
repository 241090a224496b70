-- Unknown data of a record of any type (RFC 3597 3).
use Rattle.std.specs.Prelude.{◌≡◌, ◌≤◌, ℕ, Bool, List, length, drop, nat_eq}
use Rattle.std.specs.Ordering.{on, eq_of_both, then_cmp, nat_cmp}
use Rattle.std.specs.declared.cmp.Ordering.{Ordering}
use Rattle.std.specs.Cmp.Lexicographic.{pointwise, slice_cmp}

-- the number of the type, and the octets
pub record UnknownData : Type 0 where
  pub number : ℕ
  pub octets : List ℕ

-- of one type, and equal octet for octet
abbrev pub unknown_eq : UnknownData → UnknownData → Bool
unknown_eq = eq_of_both (on (λ rdata. rdata.number) nat_eq) (on (λ rdata. rdata.octets) (pointwise nat_eq))

-- by type, and then by octets, where a prefix comes first
abbrev pub unknown_cmp : UnknownData → UnknownData → Ordering
unknown_cmp = then_cmp (on (λ rdata. rdata.number) nat_cmp) (on (λ rdata. rdata.octets) (slice_cmp nat_cmp))

-- the octets from the place on, at most 65,535, as data of the type
pub record IsUnknownAt (message : List ℕ) (place number : ℕ) (rdata : UnknownData) : Type 0 where
  pub of_type : rdata.number ≡ number
  pub octets : rdata.octets ≡ drop place message
  pub short : length rdata.octets ≤ 65535
