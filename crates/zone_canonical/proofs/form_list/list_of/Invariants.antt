use Rattle.std.proofs.Common.{take, map}
use Rattle.zone_canonical.specs.FormWriter.{Holds}
use Rattle.zone_canonical.specs.Keyed.{form_in}
use Rattle.zone_canonical.proofs.form_list.list_of.Given as given

abbrev pub invariant-loop-entry : given.invariant-loop-entry
invariant-loop-entry l = Holds l.writer (map form_in (take l.entry-index l.entries))
