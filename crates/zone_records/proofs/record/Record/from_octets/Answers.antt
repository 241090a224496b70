use Rattle.std.proofs.Common.{[], ap, sym, ◌∙◌, append-nil, length}
use Rattle.dns_label.specs.Name.{wire}
use Rattle.dns_message.specs.Record.{record_octets}
use Rattle.zone_records.proofs.RecordFronts.{behind_owner, record_regrouped}
use Rattle.zone_records.proofs.StoredRecords.{stored_of, record_in_whole}
use Rattle.zone_records.proofs.record.Record.from_octets.Goals as goal

pub first_name-requires : goal.first_name-requires
first_name-requires c =
    let r = c.requires.0 in
    (r.owner, behind_owner r [], c.requires.1.owner, c.requires.2 ∙ sym (append-nil (record_octets r)) ∙ record_regrouped r [])

pub invariant_of-result : goal.invariant_of-result
invariant_of-result c =
    let r = c.requires.0 in
    let owner = c.first_name.ensures r.owner (behind_owner r []) c.requires.1.owner
    (c.requires.2 ∙ sym (append-nil (record_octets r)) ∙ record_regrouped r []) in
    stored_of c.args.octets.now c.len.result r c.requires.1 c.requires.2 (c.len.ensures.octets ∙ ap (λ n. length (wire n)) owner)

pub returns : goal.returns
returns c = λ r is whole. record_in_whole c.args.octets.now r is whole
