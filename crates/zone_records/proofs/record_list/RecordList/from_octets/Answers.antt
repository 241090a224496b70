use Rattle.zone_records.proofs.StoredRecords.{stored_found, stored_view}
use Rattle.zone_records.proofs.record_list.RecordList.from_octets.Goals as goal

pub invariant_of-result : goal.invariant_of-result
invariant_of-result c = stored_found c.args.octets.items c.args.places.items c.requires.0 c.requires.1

pub returns : goal.returns
returns c = λ records are. stored_view c.args.octets.items c.args.places.items records are
