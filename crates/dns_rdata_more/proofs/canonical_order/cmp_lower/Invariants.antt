use Rattle.std.proofs.Common.{◌≡◌, length, map}
use Rattle.std.specs.Char.{to_ascii_lowercase}
use Rattle.std.specs.Cmp.Lexicographic.{slice_cmp}
use Rattle.std.specs.Ordering.{nat_cmp}
use Rattle.dns_rdata_more.proofs.canonical_order.cmp_lower.Given as goal

abbrev pub invariant-loop-first : goal.invariant-loop-first
invariant-loop-first l =
    slice_cmp nat_cmp (map to_ascii_lowercase l.fn.octets) (map to_ascii_lowercase l.fn.others)
    ≡ slice_cmp nat_cmp (map to_ascii_lowercase l.left) (map to_ascii_lowercase l.right)

abbrev pub decreases-loop-first : goal.decreases-loop-first
decreases-loop-first l = length l.left
