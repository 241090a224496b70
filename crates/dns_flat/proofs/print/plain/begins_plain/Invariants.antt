use Rattle.std.proofs.Common.{◌≡◌, ◌+◌, ◌-◌, ◌*◌, ℕ, drop}
use Rattle.std.specs.List.{prefix_len}
use Rattle.dns_label.specs.Printed.{is_printed_as_itself}
use Rattle.dns_flat.proofs.print.plain.begins_plain.Given as goal

abbrev pub invariant-loop-place : goal.invariant-loop-place
invariant-loop-place l = record {
  run : prefix_len is_printed_as_itself l.text ≡ l.place + prefix_len is_printed_as_itself (drop l.place l.text);
  loads : ℕ;
  whole : l.place ≡ 16 * loads;
}

abbrev pub decreases-loop-place : goal.decreases-loop-place
decreases-loop-place l = l.len - l.place
