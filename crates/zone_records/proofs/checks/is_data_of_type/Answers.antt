use Rattle.std.proofs.Common.{ap}
use Rattle.dns_rdata.specs.ZoneData.{data_of}
use Rattle.zone_records.proofs.CheckedData.{data_tested, unknown_tested}
use Rattle.zone_records.proofs.ReadData.{none_read}
use Rattle.zone_records.proofs.checks.is_data_of_type.Goals as goal

pub returns-in_default : goal.returns-in_default
returns-in_default c = (
  (λ holds. absurd cc),
  (λ is. absurd (none_read _ _ c.args.rtype c.args.data.now _ _ is c.from_ref-parser.ensures.octets c.from_ref-parser.ensures.place
      c.in_default.ensures.no_data)),
)

pub returns-in-Unknown : goal.returns-in-Unknown
returns-in-Unknown c =
    unknown_tested c.args.rtype c.args.data.now _ _ _ _ c.in-Ok.ensures.ok (ap data_of c.in-Unknown.is)
    c.from_ref-parser.ensures.octets c.from_ref-parser.ensures.place

pub returns-in-Ok-compose_rdata : goal.returns-in-Ok-compose_rdata
returns-in-Ok-compose_rdata c =
    data_tested c.args.rtype c.args.data.now _ c.compose_rdata.new.target.items _ _ c.eq.result c.in-Ok.ensures.ok
    c.from_ref-parser.ensures.octets c.from_ref-parser.ensures.place (rw c.new-written.ensures.items at c.in-Ok-compose_rdata.ensures.ok)
    (rw c.as_slice.ensures.value at c.eq.ensures)
