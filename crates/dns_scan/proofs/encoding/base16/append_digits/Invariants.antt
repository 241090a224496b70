use Rattle.std.proofs.Common.{◌≡◌, ◌++◌, ℕ, List, length}
use Rattle.dns_name.specs.UnknownText.{hex_of}
use Rattle.dns_scan.proofs.encoding.base16.append_digits.Given as goal

abbrev pub invariant-loop-left : goal.invariant-loop-left
invariant-loop-left l =
    (done : List ℕ) × (l.text.items ≡ l.fn.text.items ++ done) × (done ++ hex_of l.left ≡ hex_of l.octets)

abbrev pub decreases-loop-left : goal.decreases-loop-left
decreases-loop-left l = length l.left
