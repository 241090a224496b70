-- Records as the program keeps them: in wire format, every name in full, one after another (RFC 1035 3.2.1). Of this
-- file, the contracts of other crates name only `AreStored`: the condition for making a list of records from octets.
use Rattle.std.specs.Prelude.{◌≡◌, ◌+◌, ℕ, List, [], ◌∷◌, map, length, take, drop, flat_map}
use Rattle.std.specs.List.{AllByRecursion}
use Rattle.std.specs.Int.{from_be_bytes, w32}
use Rattle.dns_label.specs.Name.{wire}
use Rattle.dns_label.specs.Labels.{labels_at}
use Rattle.dns_octets.specs.Numbers.{number_at}
use Rattle.dns_message.specs.Record.{IsRecord, record_octets}
use Rattle.zone_records.specs.Record.{Record}

-- the record with this owner, and with these fields after it: type, class, TTL, length and data
abbrev pub record_with : List (List ℕ) → List ℕ → Record
record_with owner fields = record {
  owner = owner;
  rtype = number_at fields 0;
  class = number_at fields 2;
  ttl = from_be_bytes w32 (take 4 (drop 4 fields));
  rdata = take (number_at fields 8) (drop 10 fields);
}

-- The record that the octets begin with. If they begin with none, the value means nothing.
unfoldable pub record_in : List ℕ → Record
record_in octets = record_with (labels_at octets 0) (drop (length (wire (labels_at octets 0))) octets)

-- the octets are one record, and this number of them are its owner
pub record IsStored (octets : List ℕ) (owner_len : ℕ) : Type 0 where
  pub lawful : IsRecord (record_in octets)
  pub whole : octets ≡ record_octets (record_in octets)
  pub owner : owner_len ≡ length (wire (record_in octets).owner)

-- the records that begin at these places
abbrev pub records_at : List ℕ → List ℕ → List Record
records_at octets places = map (λ place. record_in (drop place octets)) places

-- the place at which each record begins, the first of them here
abbrev pub starts : ℕ → List Record → List ℕ
starts place [] = []
starts place (r ∷ records) = place ∷ starts (place + length (record_octets r)) records

-- the octets are these records, which begin at these places
pub record AreStored (octets places : List ℕ) (records : List Record) : Type 0 where
  pub each : AllByRecursion IsRecord records
  pub whole : octets ≡ flat_map record_octets records
  pub begin : places ≡ starts 0 records
