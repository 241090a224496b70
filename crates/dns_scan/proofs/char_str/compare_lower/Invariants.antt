use Rattle.std.proofs.Common.{◌≡◌, length}
use Rattle.std.specs.Ordering.{nat_cmp}
use Rattle.std.specs.Cmp.Lexicographic.{slice_cmp}
use Rattle.dns_scan.specs.CharStr.{lower}
use Rattle.dns_scan.proofs.char_str.compare_lower.Given as goal

abbrev pub invariant-loop-first : goal.invariant-loop-first
invariant-loop-first l =
    slice_cmp nat_cmp (lower l.fn.octets) (lower l.fn.others) ≡ slice_cmp nat_cmp (lower l.left) (lower l.right)

abbrev pub decreases-loop-first : goal.decreases-loop-first
decreases-loop-first l = length l.left
