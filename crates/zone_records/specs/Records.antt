-- What holds of the records of a zone.
use Rattle.std.specs.Prelude.{◌≡◌, ℕ, List, map}
use Rattle.dns_label.specs.Name.{low}
use Rattle.dns_rdata.specs.Fields.{Field, IsRow, octets, lowered, IsData}
use Rattle.dns_rdata.specs.DataOctets.{IsSpellable}
use Rattle.zone_records.specs.Zone.{IsZone, soa_type}
use Rattle.std.specs.List.{AllByRecursion}
pub use Rattle.dns_label.specs.Octets.{AreOctets}
use Rattle.dns_message.specs.Record.{IsRecord}
use Rattle.zone_records.specs.Record.{Record}

-- two SOA records that are equal, names up to ASCII case
pub record SameSoa (soa other : Record) : Type 0 where
  pub owner : low soa.owner ≡ low other.owner
  pub class : soa.class ≡ other.class
  pub ttl : soa.ttl ≡ other.ttl
  pub row : List Field
  pub other_row : List Field
  pub is : IsRow soa_type row × (soa.rdata ≡ octets row)
  pub other_is : IsRow soa_type other_row × (other.rdata ≡ octets other_row)
  pub same : map lowered row ≡ map lowered other_row

-- A record of the class whose data is that of its type, and which text can spell.
pub record IsSendable (class : ℕ) (r : Record) : Type 0 where
  pub lawful : IsRecord r
  pub data_is : IsData r.rtype r.rdata
  pub class_is : r.class ≡ class
  pub spellable : IsSpellable r.rtype r.rdata

-- A zone of the class, of records of any types.
pub record AreSendable (class : ℕ) (records : List Record) : Type 0 where
  pub each : AllByRecursion (IsSendable class) records
  pub zone : IsZone records

-- A sendable record that is made of octets.
pub record IsRecordOf (class : ℕ) (r : Record) : Type 0 where
  pub sendable : IsSendable class r
  pub owner_octets : AllByRecursion AreOctets r.owner
  pub data_octets : AreOctets r.rdata

-- The records are a zone of the class, as one is read.
pub record AreRecordsOf (class : ℕ) (records : List Record) : Type 0 where
  pub each : AllByRecursion (IsRecordOf class) records
  pub zone : IsZone records
