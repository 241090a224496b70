use Rattle.std.proofs.Common.{sym, ◌∙◌, ap, Some}
use Rattle.zone_records.proofs.Indexed.{element_at}
use Rattle.zone_records.proofs.record_list.RecordList.record_at.Goals as goal

pub from_octets-requires : goal.from_octets-requires
from_octets-requires c =
    let at = element_at c.args.self.now c.args.index c.requires in
    (at.0, c.octets_at.ensures.known at.0 at.1, c.octets_at.ensures.octets at.0 at.1)

pub returns : goal.returns
returns c =
    let at = element_at c.args.self.now c.args.index c.requires in
    at.1 ∙ ap Some (sym (c.from_octets.ensures at.0 (c.octets_at.ensures.known at.0 at.1) (c.octets_at.ensures.octets at.0 at.1)))
