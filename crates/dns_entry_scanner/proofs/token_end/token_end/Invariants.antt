use Rattle.std.proofs.Common.{◌≡◌, ◌≤◌, ◌-◌, drop, length}
use Rattle.std.specs.List.{prefix_len}
use Rattle.dns_entry_scanner.specs.Octets.{is_plain_in}
use Rattle.dns_entry_scanner.proofs.TokenRuns.{Taken}
use Rattle.dns_entry_scanner.proofs.token_end.token_end.Given as goal

abbrev pub invariant-loop-behind : goal.invariant-loop-behind
invariant-loop-behind l = record {
  taken : Taken l.quoted (drop l.place l.text) (drop l.end l.text) l.has_escape;
  over : prefix_len (is_plain_in l.quoted) (drop l.end l.text) ≡ 0;
  behind : l.place ≤ l.end;
  within : l.end ≤ length l.text;
}

abbrev pub decreases-loop-behind : goal.decreases-loop-behind
decreases-loop-behind l = length l.text - l.end
