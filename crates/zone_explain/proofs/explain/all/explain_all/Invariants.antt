use Rattle.std.proofs.Common.{◌≡◌, ◌++◌, List, length}
use Rattle.dns_zonefile.specs.Reader.{left_of}
use Rattle.dns_zonefile.specs.ReaderSeen.{reader_of}
use Rattle.zone_explain.specs.AllFaults.{AreFaults}
use Rattle.zone_explain.specs.Walk.{IsOver, front_of}
use Rattle.zone_explain.specs.declared.explain.Finding.{Finding}
use Rattle.zone_explain.proofs.explain.all.explain_all.Given as goal

abbrev pub invariant-loop-walk : goal.invariant-loop-walk
invariant-loop-walk l = record {
  over : IsOver l.text l.walk;
  leads : (findings : List Finding) → AreFaults (reader_of l.walk.zonefile) (front_of l.walk.front) findings
      → AreFaults (reader_of l.initial.walk.zonefile) (front_of l.initial.walk.front) (l.findings.items ++ findings);
}

abbrev pub decreases-loop-walk : goal.decreases-loop-walk
decreases-loop-walk l = length (left_of (reader_of l.walk.zonefile))
