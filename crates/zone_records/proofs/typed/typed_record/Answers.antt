use Rattle.zone_records.proofs.ReadData.{data_as, has_as, record_made}
use Rattle.zone_records.proofs.typed.typed_record.Goals as goal

pub parse_data-rdata-requires : goal.parse_data-rdata-requires
parse_data-rdata-requires c = data_as _ _ _ _ c.rtype.ensures c.data.ensures c.requires

pub returns : goal.returns
returns c = record {
  same =
      record_made c.args.record.now c.new.result c.owner.result c.class.result c.ttl.result c.parse_data-rdata.result c.rtype.result
      c.data.result.now c.new.ensures c.owner.ensures.owner c.class.ensures c.ttl.ensures c.rtype.ensures c.data.ensures
      c.parse_data-rdata.ensures.number c.parse_data-rdata.ensures.octets;
  fields = has_as c.new.result c.owner.result c.class.result c.ttl.result c.parse_data-rdata.result c.new.ensures c.parse_data-rdata.ensures.fields;
}
