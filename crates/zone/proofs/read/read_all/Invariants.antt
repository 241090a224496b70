use Rattle.std.proofs.Common.{◌≡◌, List, None, length, option_copied}
use Rattle.dns_zonefile.specs.Reader.{left_of}
use Rattle.dns_zonefile.specs.ReaderSeen.{reader_of, refused_in}
use Rattle.zone_records.specs.Record.{Record}
use Rattle.zone.specs.Kept.{Keeps}
use Rattle.zone.specs.Reading.{HasRead}
use Rattle.zone.proofs.read.read_all.Given as goal

abbrev pub invariant-loop-octets : goal.invariant-loop-octets
invariant-loop-octets l =
    (refused_in l.zonefile ≡ None) × (records : List Record)
    × HasRead l.fn.text.items (option_copied l.fn.origin) l.fn.class (reader_of l.zonefile) records
    × Keeps l.keeper l.octets.items records × (l.keeper.first_only ≡ l.fn.keeper.first_only)

abbrev pub decreases-loop-octets : goal.decreases-loop-octets
decreases-loop-octets l = length (left_of (reader_of l.zonefile))
