use Rattle.std.proofs.Common.{refl}
use Rattle.zone_records.proofs.StoredRecords.{stored_none}
use Rattle.zone.proofs.keep.Keeper.of_all.Goals as goal

pub returns-clause-kept : goal.returns-clause-kept
returns-clause-kept c = record { apex = refl; counted = refl; kept = stored_none _ _ refl c.new.ensures.items }
