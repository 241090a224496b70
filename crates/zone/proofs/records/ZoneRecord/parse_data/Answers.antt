use Rattle.std.proofs.Common.{◌∙◌}
use Rattle.zone.proofs.ReadZoneData.{data_at}
use Rattle.zone.proofs.records.ZoneRecord.parse_data.Goals as goal

pub parse_data-requires : goal.parse_data-requires
parse_data-requires c =
    data_at c.args.self.now.list.now c.args.self.now.index _ _ _ c.args.self.now.within c.args.self.now.lawful c.rtype.ensures
    c.data.ensures

pub returns : goal.returns
returns c = record {
  rtype = c.parse_data.ensures.number ∙ c.rtype.ensures;
  octets = c.parse_data.ensures.octets ∙ c.data.ensures;
  fields = c.parse_data.ensures.fields;
}
