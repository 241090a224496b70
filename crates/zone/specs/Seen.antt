-- The record that a caller sees.
use Rattle.std.specs.Prelude.{[], get_or}
use Rattle.zone_records.specs.Record.{Record}
use Rattle.zone.specs.declared.records.ZoneRecord.{ZoneRecord}

-- the element of the list; the default is never used
abbrev pub seen_record : ZoneRecord → Record
seen_record r = get_or r.list.now r.index (record { owner = []; rtype = 0; class = 0; ttl = 0; rdata = [] })
