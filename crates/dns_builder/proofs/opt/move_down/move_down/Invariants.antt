use Rattle.std.proofs.Common.{◌≡◌, ◌≤◌, ◌+◌, ◌-◌, length}
use Rattle.dns_builder.proofs.MovedDown.{moved_some}
use Rattle.dns_builder.proofs.opt.move_down.move_down.Given as goal

abbrev pub invariant-loop-read : goal.invariant-loop-read
invariant-loop-read g l = record {
  octets : g.Target.Octets.list l.target ≡ moved_some (g.Target.Octets.list l.initial.target) l.to l.from l.read l.write;
  level : l.read + l.to ≡ l.write + l.from;
  behind : l.from ≤ l.read;
  within : l.read ≤ length (g.Target.Octets.list l.initial.target);
  known : g.Target.Remembers.known l.target ≡ g.Target.Remembers.known l.initial.target;
  bound : g.Target.OctetsBuilder.bound l.target ≡ g.Target.OctetsBuilder.bound l.initial.target;
  stays : g.Target.OctetsBuilder.stays l.initial.target l.target;
}

abbrev pub decreases-loop-read : goal.decreases-loop-read
decreases-loop-read g l = length (g.Target.Octets.list l.initial.target) - l.read
