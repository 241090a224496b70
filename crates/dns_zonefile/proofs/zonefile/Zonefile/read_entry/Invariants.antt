use Rattle.std.proofs.Common.{◌≡◌, ◌-◌, length}
use Rattle.dns_zonefile.specs.ReaderSeen.{reader_of, refused_in}
use Rattle.dns_zonefile.proofs.Going.{HasPassed}
use Rattle.dns_zonefile.proofs.zonefile.Zonefile.read_entry.Given as goal

abbrev pub invariant-loop-given : goal.invariant-loop-given
invariant-loop-given g l = record {
  passed : HasPassed (reader_of l.initial.self) (reader_of l.self);
  refused : refused_in l.self ≡ refused_in l.initial.self;
  kept : g.F.EntryForm.octets l.form ≡ g.F.EntryForm.octets l.initial.form;
}

abbrev pub decreases-loop-given : goal.decreases-loop-given
decreases-loop-given g l = length l.self.text.items - l.self.place
