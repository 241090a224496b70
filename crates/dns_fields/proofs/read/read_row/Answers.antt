use Rattle.std.proofs.Common.{◌<◌, ◌^◌, length, sym, ◌∙◌, ap, rules}
use Rattle.std.specs.Prelude.{Some}
use Rattle.dns_fields.specs.Fields.{octets}
use Rattle.dns_fields.proofs.LongRows.{no_long_data, row_read, short_data}
use Rattle.dns_fields.proofs.read.read_row.Goals as goal

pub returns-then-is_none-clause-no_data : goal.returns-then-is_none-clause-no_data
returns-then-is_none-clause-no_data g c =
    let row = g.R.HasFields.fields c.in_ok-row.row in
    let long : 65535 < length (octets row) = search rules in
    no_long_data row (c.requires ∙ ap Some (sym (g.met.R.HasFields.of_kinds c.in_ok-row.row))) c.in_ok-row.ensures.sole long

pub returns-clause-ok : goal.returns-clause-ok
returns-clause-ok g c =
    let row = g.R.HasFields.fields c.in_ok-row.row in
    let short : length (octets row) < 2 ^ 16 = search rules in
    short_data row (c.requires ∙ ap Some (sym (g.met.R.HasFields.of_kinds c.in_ok-row.row))) c.in_ok-row.ensures.ok short

pub returns-clause-long : goal.returns-clause-long
returns-clause-long g c =
    let row = g.R.HasFields.fields c.in_ok-row.row in
    let short : length (octets row) < 2 ^ 16 = search rules in
    row_read row (c.requires ∙ ap Some (sym (g.met.R.HasFields.of_kinds c.in_ok-row.row))) c.in_ok-row.ensures.sole short
