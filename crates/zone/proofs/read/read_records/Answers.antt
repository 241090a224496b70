use Rattle.std.proofs.Common.{◌∙◌, option_copied, sym, subst}
use Rattle.zone_records.specs.Records.{AreRecordsOf}
use Rattle.zone.specs.ZoneText.{IsZoneText}
use Rattle.zone.proofs.Keeping.{all_kept}
use Rattle.zone.proofs.ReadRecords.{records_known}
use Rattle.zone.proofs.read.read_records.Goals as goal

pub from_octets-requires : goal.from_octets-requires
from_octets-requires c = let zone = c.in_ok-octets.ensures.ok in (zone.0, all_kept (c.in_ok-octets.ensures.kind ∙ c.of_all-keeper.ensures.all) zone.2)

pub returns-clause-ok : goal.returns-clause-ok
returns-clause-ok c =
    let zone = c.in_ok-octets.ensures.ok in
    let stored = all_kept (c.in_ok-octets.ensures.kind ∙ c.of_all-keeper.ensures.all) zone.2 in
    subst (λ rs. IsZoneText c.args.text.items (option_copied c.args.origin) c.args.class rs) (sym (c.from_octets.ensures zone.0 stored)) zone.1

pub returns-clause-known : goal.returns-clause-known
returns-clause-known c =
    let zone = c.in_ok-octets.ensures.ok in
    let stored = all_kept (c.in_ok-octets.ensures.kind ∙ c.of_all-keeper.ensures.all) zone.2 in
    subst (λ rs. AreRecordsOf c.args.class rs) (sym (c.from_octets.ensures zone.0 stored))
    (records_known zone.1 stored (rw c.deref.ensures.value at c.are_octets.ensures))
