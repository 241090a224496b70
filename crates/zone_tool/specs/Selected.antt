-- The records of a zone that are compared, and what is compared of them.
use Rattle.std.specs.Prelude.{◌==◌, ◌&&◌, ◌-◌, ◌++◌, ℕ, Bool, not, List, [], ◌∷◌, length, take, drop, map, filter, nat_eq}
use Rattle.std.specs.Prelude.{if◌then◌else◌}
use Rattle.std.specs.List.{list_any}
use Rattle.zone_records.specs.Record.{Record}
use Rattle.zone_records.specs.Zone.{soa_type}
use Rattle.zone_tool.specs.declared.selection.Selection.{Selection}

-- Data of an SOA with the serial 0. Its five numbers of four octets each are its last octets, and the serial is the
-- first of them (RFC 1035 3.3.13).
abbrev pub without_serial : List ℕ → List ℕ
without_serial data' = take (length data' - 20) data' ++ (0 ∷ 0 ∷ 0 ∷ 0 ∷ []) ++ drop (length data' - 16) data'

-- the record's data: an SOA's with the serial 0 if serials are ignored
abbrev pub compared_data : Selection → Record → List ℕ
compared_data selection r =
    if selection.ignore_serial && (r.rtype == soa_type) then without_serial r.rdata else r.rdata

-- the record with what is ignored as 0
abbrev pub compared_of : Selection → Record → Record
compared_of selection r = record {
  owner = r.owner;
  rtype = r.rtype;
  class = r.class;
  ttl = if selection.ignore_ttl then 0 else r.ttl;
  rdata = compared_data selection r;
}

-- whether records of the type are compared
abbrev pub is_compared : Selection → ℕ → Bool
is_compared selection rtype = not (list_any (λ left_out. nat_eq left_out rtype) selection.without.items)

-- the records that are compared, in order
abbrev pub selected_of : Selection → List Record → List Record
selected_of selection records = map (compared_of selection) (filter (λ r. is_compared selection r.rtype) records)
