-- The laws of how rows compare: an equivalence, a total order that ties exactly the rows that are equal, and
-- equal rows have the same keys.
use Rattle.std.specs.Prelude.{◌≡◌, List, nat_eq, IsTrue}
use Rattle.std.specs.Cmp.{IsPartialEquivalence, IsEquivalence, IsPartialOrder, IsTotalOrder, on_equiv, on_total, nat_eq_equiv, partial_equiv_from_equiv, partial_order_from_total, partial_order_from_own_ties}
use Rattle.std.specs.Cmp.Lexicographic.{pointwise, slice_cmp, lists_equiv, lists_total, lists_ties, nat_list_cmp_total, texts_ties}
use Rattle.std.specs.Ordering.{is_eq, nat_cmp, as_partial_cmp}
use lib.Pointwise.{pointwise_decides, bytes_decides}
use Rattle.dns_fields.specs.Fields.{Field}
use Rattle.dns_fields.specs.Alike.{keys, rows_eq, rows_cmp}

pub rows_equivalent : IsEquivalence rows_eq
unfolding rows_eq
rows_equivalent = on_equiv keys (lists_equiv (lists_equiv nat_eq_equiv))

pub rows_partly_equivalent : IsPartialEquivalence rows_eq
rows_partly_equivalent = partial_equiv_from_equiv rows_equivalent

pub rows_total : IsTotalOrder rows_cmp
unfolding rows_cmp
rows_total = on_total keys (lists_total nat_list_cmp_total)

pub rows_ties : (row other : List Field) → rows_eq row other ≡ is_eq (rows_cmp row other)
unfolding rows_eq rows_cmp
rows_ties row other = lists_ties (slice_cmp nat_cmp) texts_ties (keys row) (keys other)

pub rows_order : IsPartialOrder rows_eq (as_partial_cmp rows_cmp)
rows_order = partial_order_from_own_ties (partial_order_from_total rows_total) rows_ties

pub rows_alike : (row other : List Field) → IsTrue (rows_eq row other) → keys row ≡ keys other
unfolding rows_eq
rows_alike row other same = (pointwise_decides {E = pointwise nat_eq} bytes_decides (keys row) (keys other)).0 same
