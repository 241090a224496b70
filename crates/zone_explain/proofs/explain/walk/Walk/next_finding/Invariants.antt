use Rattle.std.proofs.Common.{◌≡◌, ◌≤◌, List, length}
use Rattle.dns_zonefile.specs.Reader.{left_of}
use Rattle.dns_zonefile.specs.ReaderSeen.{reader_of}
use Rattle.zone_explain.specs.AllFaults.{AreFaults}
use Rattle.zone_explain.specs.Walk.{IsOver, front_of}
use Rattle.zone_explain.specs.declared.explain.Finding.{Finding}
use Rattle.zone_explain.proofs.explain.walk.Walk.next_finding.Given as goal

abbrev pub invariant-loop-finding : goal.invariant-loop-finding
invariant-loop-finding l = record {
  over : IsOver l.text l.self;
  leads : (findings : List Finding) → AreFaults (reader_of l.self.zonefile) (front_of l.self.front) findings
      → AreFaults (reader_of l.initial.self.zonefile) (front_of l.initial.self.front) findings;
  shorter : length (left_of (reader_of l.self.zonefile)) ≤ length (left_of (reader_of l.initial.self.zonefile));
}

abbrev pub decreases-loop-finding : goal.decreases-loop-finding
decreases-loop-finding l = length (left_of (reader_of l.self.zonefile))
