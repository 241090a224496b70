use Rattle.std.proofs.Common.{◌≡◌, length, rules}
use Rattle.std.proofs.lemmas.Result.{on_ok_weaker}
use Rattle.zone_records.proofs.StoredRecords.{stored_more}
use Rattle.zone_tool.specs.Selected.{compared_of}
use Rattle.zone_tool.proofs.ComparedRecords.{compared_has, compared_written}
use Rattle.zone_tool.proofs.record_writer.RecordWriter.push.Goals as goal

pub returns : goal.returns
returns c =
    let place : c.len.result ≡ length c.args.self.now.octets.items = search rules in
    let r = c.args.record.now in
    let selection = c.args.selection.now in
    on_ok_weaker c.append_data.result
    (λ appended records held. stored_more c.args.self.now.octets.items c.args.self.now.places.items c.append_data.new.octets.items c.push.new.self.items
    records (compared_of selection r) held (compared_has selection r c.requires).lawful
    (compared_written selection r c.args.self.now.octets.items c.extend_from_slice.new.self.items c.extend_from_slice-2.new.self.items
    c.extend_from_slice-3.new.self.items c.extend_from_slice-4.new.self.items c.extend_from_slice-5.new.self.items c.append_data.new.octets.items c.requires
    (search rules) (search rules) (search rules) (search rules) (search rules) appended)
    (rw place at c.in_ok-push.ensures.items))
    c.append_data.ensures
