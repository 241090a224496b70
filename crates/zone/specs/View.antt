-- The view of a zone, and its apex.
use Rattle.std.specs.Prelude.{◌≢◌, ◌≤◌, ℕ, List, [], ◌∷◌, length}
use Rattle.std.specs.List.{AllByRecursion}
use Rattle.zone_records.specs.Record.{Record}
use Rattle.zone_records.specs.Records.{AreRecordsOf}
use Rattle.zone_records.specs.Typed.{HasLawfulData}
use Rattle.zone_records.specs.Zone.{any_class}

-- a zone is its records, in order, and its class
pub record Contents : Type 0 where
  pub records : List Record
  pub class : ℕ

-- The zone's apex: the owner of its first record, the SOA. That of no records means nothing.
abbrev pub apex_of : List Record → List (List ℕ)
apex_of [] = []
apex_of (soa ∷ others) = soa.owner

-- The records are a zone of the class. No zone has the class ANY.
pub record IsZoneOf (class : ℕ) (records : List Record) : Type 0 where
  pub are : AreRecordsOf class records
  pub known : class ≢ any_class

-- A place among records, or after the last. The data of each is that of its type.
pub record IsPlaceIn (records : List Record) (place : ℕ) : Type 0 where
  pub within : place ≤ length records
  pub lawful : AllByRecursion HasLawfulData records
