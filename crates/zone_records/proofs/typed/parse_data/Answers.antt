use Rattle.zone_records.proofs.ReadData.{data_typed_at, none_read}
use Rattle.zone_records.proofs.typed.parse_data.Goals as goal

pub unreachable-requires : goal.unreachable-requires
unreachable-requires c =
    none_read _ _ c.args.rtype c.args.octets.now _ _ c.requires c.from_ref-parser.ensures.octets c.from_ref-parser.ensures.place
    c.in-Err.ensures.no_data

pub returns : goal.returns
returns c =
    let read = data_typed_at c.args.rtype c.args.octets.now _ _ _ c.requires c.from_ref-parser.ensures.octets c.from_ref-parser.ensures.place
    c.in-Ok.ensures.ok in
    record { number = read.number; octets = read.octets_are; fields = read.has }
