use Rattle.std.proofs.Common.{◌-◌, Some, length, option_copied}
use Rattle.dns_zonefile.specs.Entry.{at_start}
use Rattle.zone_general.proofs.ReadableRows.{GoingReadable}
use Rattle.zone_general.specs.Seen.{context_in}
use Rattle.zone_general.proofs.readable.general_rows.Given as goal

abbrev pub invariant-loop-next : goal.invariant-loop-next
invariant-loop-next l = GoingReadable (at_start (option_copied l.fn.origin) (Some l.fn.class)) l.text l.place (context_in l.reader) l.out.items

abbrev pub decreases-loop-next : goal.decreases-loop-next
decreases-loop-next l = length l.text - l.place
