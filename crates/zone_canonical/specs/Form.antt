-- The canonical form of a record, as a function. Only contracts inside the crate name it.
use Rattle.dns_label.specs.Name.{low}
use Rattle.zone_records.specs.Record.{Record}
use Rattle.zone_canonical.specs.DataForm.{data_form}

abbrev pub form_of : Record → Record
form_of r = record { owner = low r.owner; rtype = r.rtype; class = r.class; ttl = r.ttl; rdata = data_form r.rtype r.rdata }
