-- The list that a writer of records holds. Only contracts inside the crate name it.
use Rattle.std.specs.Prelude.{List}
use Rattle.zone_records.specs.Record.{Record}
use Rattle.zone_records.specs.Stored.{AreStored}
use Rattle.zone_tool.specs.declared.record_writer.RecordWriter.{RecordWriter}

abbrev pub Holds : RecordWriter → List Record → Type 0
Holds writer records = AreStored writer.octets.items writer.places.items records
