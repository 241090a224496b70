use Rattle.std.proofs.Common.{sym}
use Rattle.dns_header.proofs.Fields.{octets_by_fields}
use Rattle.dns_header.proofs.laws.header_is_its_fields.Goals as goal

pub returns : goal.returns
returns c = let are = c.octets-octets.ensures in sym (octets_by_fields c.args.header are.four are.each)
