use Rattle.std.proofs.Common.{◌≡◌, ◌<◌, ◌≤◌, ◌+◌, ◌-◌, length, drop, take}
use Rattle.dns_entry_scanner.proofs.RelativeNames.{LabelsWritten}
use Rattle.dns_entry_scanner.proofs.relative_name.write_labels.Given as goal

abbrev pub invariant-loop-start : goal.invariant-loop-start
invariant-loop-start l =
    (l.start ≤ length l.text) × (l.head < l.place) × (l.place ≤ l.front + 1 + l.start) × (length l.octets.items ≡ length l.fn.octets.items)
    × LabelsWritten l.text (drop l.start l.text) (take l.front l.fn.octets.items) l.octets.items l.head l.place

abbrev pub decreases-loop-start : goal.decreases-loop-start
decreases-loop-start l = length l.text - l.start
