use Rattle.dns_scan_data.proofs.Appending.{whole_row_appended}
use Rattle.dns_scan_data.proofs.row.scan_and_append.Goals as goal

pub returns-in-Ok-compose_fields-clause-ok : goal.returns-in-Ok-compose_fields-clause-ok
returns-in-Ok-compose_fields-clause-ok g c =
    whole_row_appended (g.R.HasFields.fields c.in-Ok.row) (g.met.R.HasFields.of_kinds c.in-Ok.row) c.in-Ok.ensures.ok c.in-Ok-compose_fields.ensures.ok
