use Rattle.std.proofs.Common.{subst, sym}
use Rattle.zone_records.specs.Stored.{record_in}
use Rattle.zone_canonical.specs.Canonical.{HasCanonicalForm}
use Rattle.zone_canonical.proofs.entry.Entry.stored.Goals as goal

pub returns-clause-has : goal.returns-clause-has
returns-clause-has c =
    let stored = c.self.invariant.0 in
    let same = c.from_octets.ensures (record_in c.self.inside.octets.now) stored.lawful stored.whole in
    subst HasCanonicalForm (sym same) c.self.invariant.1
