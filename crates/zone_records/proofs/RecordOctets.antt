-- The octets of a record are those of its parts.
use Rattle.std.proofs.Common.{ℕ, List, ◌++◌, length, refl, append_assoc}
use Rattle.std.specs.Int.{to_be_bytes, w16}
use Rattle.std.specs.List.{AllByRecursion}
use Rattle.dns_label.specs.Name.{wire}
use Rattle.dns_label.specs.Octets.{AreOctets}
use Rattle.dns_message.specs.Head.{after_length, fixed_octets}
use Rattle.dns_message.specs.Record.{record_octets}
use Rattle.zone_records.specs.Record.{Record}
use Rattle.zone_records.proofs.Each.{wire_back}
use Rattle.zone_records.proofs.OctetFronts.{octets_behind, octets_front}

pub octets_of_record : (r : Record) → AreOctets (record_octets r) → AllByRecursion AreOctets r.owner × AreOctets r.rdata
octets_of_record r each =
    let owner : List ℕ = wire r.owner in
    let fixed : List ℕ = fixed_octets r.rtype r.class r.ttl in
    let counted : List ℕ = after_length r.rdata in
    let whole = append_assoc owner fixed counted in
    let behind = octets_behind (record_octets r) owner (fixed ++ counted) whole each in
    let data' = octets_behind (fixed ++ counted) fixed counted refl behind in (
      wire_back r.owner (octets_front (record_octets r) owner (fixed ++ counted) whole each),
      octets_behind counted (to_be_bytes w16 (length r.rdata)) r.rdata refl data',
    )
