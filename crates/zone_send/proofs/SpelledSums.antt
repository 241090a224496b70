-- The number of octets of a message, as a sum.
use Rattle.std.proofs.Common.{◌≡◌, ℕ, ◌≤◌, ◌+◌, List, [], ◌∷◌, ◌++◌, length, refl, sym, ap, ◌∙◌, subst, arith, append-nil}
use Rattle.std.specs.Prelude.{None, min, sum_by, flat_map}
use Rattle.std.specs.List.{AllByRecursion}
use Rattle.std.proofs.lemmas.List.Sums.{sum_by-cons}
use Rattle.dns_name.specs.Spelling.{Spelling}
use Rattle.dns_name.specs.Page.{Parts}
use Rattle.dns_rdata.specs.Fields.{Field, IsField}
use Rattle.dns_rdata.specs.Fields.Field.{number8, number16, number32, ipv4, ipv6, compressible, uncompressed, string, strings, tag, rest_text, rest16, rest64}
use Rattle.dns_message.specs.Record.{IsRecord, IsWritten, written_parts}
use Rattle.dns_message.specs.Record.IsWritten.{fields, untold}
use Rattle.dns_compression_laws.specs.Alike.{HaveNames}
use Rattle.dns_compression_laws.specs.Cost.{same_name, names_in, octets_in, parts_cost}
use Rattle.dns_compression_laws.specs.CostSum.{AreTheSuffixes, ends_cost}
use Rattle.dns_compression_laws.specs.Groups.{items, group_parts}
use Rattle.dns_compression_laws.proofs.Sizes.{AllProper, written_size}
use Rattle.dns_compression_laws.proofs.Joins.{names-join, octets-join}
use Rattle.dns_compression_laws.proofs.DistinctSums.{parts_sum}
use Rattle.zone_records.specs.Record.{Record}
use Rattle.zone_core.specs.Query.{AxfrQuery}
use Rattle.zone_send.specs.Spelled.{answer_head, spelled_size, record_items, message_names, message_sum}
use Rattle.zone_send.proofs.Plain.{length-header}

-- the names in the parts that a writer gives for a record are names
field_names : (field : Field) (row : List Field) → IsField field → HaveNames (written_parts row) → HaveNames (written_parts (field ∷ row))
field_names (number8 n) row is on = on
field_names (number16 n) row is on = on
field_names (number32 n) row is on = on
field_names (ipv4 octets) row is on = on
field_names (ipv6 octets) row is on = on
field_names (compressible name) row is on = (is, on)
field_names (uncompressed name) row is on = on
field_names (string octets) row is on = on
field_names (strings each) row is on = on
field_names (tag octets) row is on = on
field_names (rest_text octets) row is on = on
field_names (rest16 octets) row is on = on
field_names (rest64 octets) row is on = on

row_names : (row : List Field) → AllByRecursion IsField row → HaveNames (written_parts row)
row_names [] each = tt
row_names (field ∷ row) each = field_names field row each.0 (row_names row each.1)

pub written_names : (r : Record) (parts : Parts) → IsRecord r → IsWritten r parts → HaveNames parts
written_names r _ is (fields row is_row same) = (is.owner, (row_names row is_row.each, tt))
written_names r _ is (untold none) = (is.owner, (tt, tt))

module _ (query : AxfrQuery) (data_parts : Record → Parts) where
  items_octets : (group : List Record) → octets_in (items (record_items data_parts) group) ≡ sum_by (λ r. 10 + octets_in (data_parts r)) group
  items_octets [] = refl
  items_octets (r ∷ group) =
      omega (
        arith,
        octets-join (record_items data_parts r) (items (record_items data_parts) group),
        items_octets group,
        sum_by-cons (λ (r : Record). 10 + octets_in (data_parts r)) r group,
      )

  items_names : (group : List Record) → names_in (items (record_items data_parts) group) ≡ flat_map (λ r. r.owner ∷ names_in (data_parts r)) group
  items_names [] = refl
  items_names (r ∷ group) =
      names-join (record_items data_parts r) (items (record_items data_parts) group)
      ∙ ap (λ (names : List (List (List ℕ))). (r.owner ∷ names) ++ names_in (items (record_items data_parts) group)) (append-nil (names_in (data_parts r)))
      ∙ ap (λ (names : List (List (List ℕ))). (r.owner ∷ names_in (data_parts r)) ++ names) (items_names group)

  parts_names : (group : List Record) → names_in (group_parts (answer_head query) (record_items data_parts) group) ≡ message_names query data_parts group
  parts_names group = ap (λ (names : List (List (List ℕ))). query.name ∷ names) (items_names group)

  -- the cost of a message is the sum
  pub message_cost : (s : Spelling) (group : List Record) (suffixes : List (List (List ℕ))) → AreTheSuffixes (same_name s) (message_names query data_parts group) suffixes
      → parts_cost s (group_parts (answer_head query) (record_items data_parts) group) ≡ message_sum s query data_parts group suffixes
  message_cost s group suffixes are =
      let names = parts_names group in
      let there = subst (λ (n : List (List (List ℕ))). AreTheSuffixes (same_name s) n suffixes) (sym names) are in
      omega (
        arith,
        parts_sum s (group_parts (answer_head query) (record_items data_parts) group) suffixes there,
        ap (ends_cost (same_name s) []) names,
        items_octets group,
        length-header query (length group),
      )

  -- and so are its octets
  pub message_octets : (s : Spelling) (group : List Record) (suffixes : List (List (List ℕ))) → s.most ≡ None
      → AllProper s.folds (names_in (group_parts (answer_head query) (record_items data_parts) group))
      → AreTheSuffixes (same_name s) (message_names query data_parts group) suffixes
      → min (message_sum s query data_parts group suffixes) (spelled_size s query (record_items data_parts) group) ≤ 16384
      → spelled_size s query (record_items data_parts) group ≡ message_sum s query data_parts group suffixes
  message_octets s group suffixes any proper are fits =
      let sum = message_cost s group suffixes are in
      written_size s (group_parts (answer_head query) (record_items data_parts) group) any proper (omega (arith, sum)) ∙ sum
