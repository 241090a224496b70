use Rattle.std.proofs.Common.{◌∙◌, ap, sym}
use Rattle.zone_records.specs.Record.{Record}
use Rattle.dns_wire.proofs.Case.{wire_one}
use Rattle.zone_records.proofs.StoredRecords.{owner_front, owner_written}
use Rattle.zone_records.proofs.record.Record.owner.Goals as goal

pub from_octets_unchecked-requires : goal.from_octets_unchecked-requires
from_octets_unchecked-requires c = owner_written _ _ c.self.invariant

pub returns-clause-owner : goal.returns-clause-owner
returns-clause-owner c =
    wire_one _ _ (sym c.from_octets_unchecked.ensures ∙ owner_front _ _ c.self.invariant) ∙ ap (λ (r : Record). r.owner) c.self.view_is
