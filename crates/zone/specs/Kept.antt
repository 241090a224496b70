-- What is kept of the records that are read from a text. Only contracts inside the crate name it.
use Rattle.std.specs.Prelude.{◌≡◌, ℕ, Bool, true, false, List, length}
use Rattle.zone_records.specs.Record.{Record}
use Rattle.zone_records.specs.Stored.{AreStored}
use Rattle.zone.specs.Reading.{IsFirst, apex_in, name_len}
use Rattle.zone.specs.declared.keep.Keeper.{Keeper}

-- the octets are the first of the records alone, or all of them, which begin at these places
abbrev pub AreKept : Bool → List ℕ → List ℕ → List Record → Type 0
AreKept true places octets records = IsFirst octets records
AreKept false places octets records = AreStored octets places records

-- The keeper has taken these records, and keeps the first alone or all of them. Their octets are in one vector.
pub record Keeps (keeper : Keeper) (octets : List ℕ) (records : List Record) : Type 0 where
  pub apex : keeper.apex_len ≡ name_len (apex_in records)
  pub counted : keeper.count ≡ length records
  pub kept : AreKept keeper.first_only keeper.places.items octets records
