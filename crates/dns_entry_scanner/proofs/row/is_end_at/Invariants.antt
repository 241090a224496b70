use Rattle.std.proofs.Common.{◌≡◌, ◌-◌, drop, length}
use Rattle.dns_text.specs.Tokens.{is_end}
use Rattle.dns_entry_scanner.proofs.row.is_end_at.Given as goal

abbrev pub invariant-loop-at : goal.invariant-loop-at
invariant-loop-at l = is_end (drop l.place l.text) ≡ is_end (drop l.at l.text)

abbrev pub decreases-loop-at : goal.decreases-loop-at
decreases-loop-at l = length l.text - l.at
