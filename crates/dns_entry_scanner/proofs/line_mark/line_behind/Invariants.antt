use Rattle.std.proofs.Common.{◌≡◌, ◌+◌, ◌≤◌, length}
use Rattle.dns_entry_scanner.specs.Lines.{line_behind}
use Rattle.dns_entry_scanner.proofs.line_mark.line_behind.Given as goal

abbrev pub invariant-loop-block : goal.invariant-loop-block
invariant-loop-block l = (l.line + line_behind l.left ≡ line_behind l.before + 1) × (l.line + length l.left ≤ length l.before + 1)

abbrev pub decreases-loop-block : goal.decreases-loop-block
decreases-loop-block l = length l.left

abbrev pub invariant-loop-octet : goal.invariant-loop-octet
invariant-loop-octet l = (l.line + line_behind l.left ≡ line_behind l.before + 1) × (l.line + length l.left ≤ length l.before + 1)

abbrev pub decreases-loop-octet : goal.decreases-loop-octet
decreases-loop-octet l = length l.left
