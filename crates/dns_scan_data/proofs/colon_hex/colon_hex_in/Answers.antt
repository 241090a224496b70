use Rattle.dns_fields.proofs.ScanLeaves.{no_colon_hex}
use Rattle.dns_scan_data.proofs.colon_hex.colon_hex_in.Goals as goal

pub returns-in-None-clause-none : goal.returns-in-None-clause-none
returns-in-None-clause-none c = rw c.ok.ensures.value (no_colon_hex c.args.text.now c.parse_ascii.result c.parse_ascii.ensures)
