-- The list that a writer of forms holds. Only contracts inside the crate name it.
use Rattle.std.specs.Prelude.{List}
use Rattle.zone_records.specs.Record.{Record}
use Rattle.zone_records.specs.Stored.{AreStored}
use Rattle.zone_canonical.specs.declared.form_list.FormWriter.{FormWriter}

abbrev pub Holds : FormWriter → List Record → Type 0
Holds writer forms = AreStored writer.octets.items writer.places.items forms
