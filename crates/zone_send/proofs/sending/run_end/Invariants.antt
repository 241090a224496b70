use Rattle.std.proofs.Common.{◌≤◌, ◌+◌}
use Rattle.zone_send.specs.Sending.{octets_before}
use Rattle.zone_send.proofs.sending.run_end.Given as given

abbrev pub invariant-loop-end : given.invariant-loop-end
invariant-loop-end l = octets_before l.records l.end ≤ octets_before l.records l.start + l.room
