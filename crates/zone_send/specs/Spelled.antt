-- Messages that carry groups of records, with names in any spelling (RFC 5936 2.2, RFC 1035 4.1.4). `item` gives the
-- parts of each record.
use Rattle.std.specs.Prelude.{◌≡◌, ◌≤◌, ◌+◌, ℕ, List, [], ◌∷◌, length, flat_map, sum_by}
use Rattle.std.specs.List.{AllZip}
use Rattle.dns_name.specs.Spelling.{Spelling}
use Rattle.dns_name.specs.Page.{Parts}
use Rattle.dns_name.specs.Page.Parts.{Octets}
use Rattle.dns_header.specs.Header.{answer_header}
use Rattle.dns_header.specs.Question.{question_parts}
use Rattle.dns_message.specs.Record.{record_parts}
use Rattle.dns_compression_laws.specs.Cost.{same_name, names_in, octets_in}
use Rattle.dns_compression_laws.specs.CostSum.{first_label, ends_cost}
use Rattle.dns_compression_laws.specs.Free.{IsFree}
use Rattle.dns_compression_laws.specs.Groups.{group_parts, group_size}
use Rattle.zone_records.specs.Record.{Record}
use Rattle.zone_core.specs.Query.{AxfrQuery, question_of}

-- the parts before the records: the header, which counts them, and the query's question
abbrev pub answer_head : AxfrQuery → List Record → Parts
answer_head query group = Octets (answer_header query.id query.recursion (length group)) (question_parts (question_of query))

-- the number of octets of the message for a group
abbrev pub spelled_size : Spelling → AxfrQuery → (Record → Parts) → List Record → ℕ
spelled_size s query item group = group_size s (answer_head query) item group

-- The message is any header of twelve octets, and then spells the query's question and the records freely.
pub record IsFreeAnswer (query : AxfrQuery) (item : Record → Parts) (message : List ℕ) (group : List Record) : Type 0 where
  pub header : List ℕ
  pub twelve : length header ≡ 12
  pub spelled : IsFree message (group_parts (λ others. Octets header (question_parts (question_of query))) item group)

-- the message is one of the group, of at most `max` octets
pub record SpellsGroup (query : AxfrQuery) (item : Record → Parts) (max : ℕ) (message : List ℕ) (group : List Record) : Type 0 where
  pub free : IsFreeAnswer query item message group
  pub small : length message ≤ max

-- and messages are those of the groups, one each
abbrev pub SpellGroups : AxfrQuery → (Record → Parts) → ℕ → List (List ℕ) → List (List Record) → Type 0
SpellGroups query item max messages groups = AllZip (SpellsGroup query item max) messages groups

-- the parts of each record, given those of its data
abbrev pub record_items : (Record → Parts) → Record → Parts
record_items data_parts r = record_parts r (data_parts r)

-- the names of a message: the query's, and of each record the owner and those in its data
abbrev pub message_names : AxfrQuery → (Record → Parts) → List Record → List (List (List ℕ))
message_names query data_parts group = query.name ∷ flat_map (λ r. r.owner ∷ names_in (data_parts r)) group

-- The octets of a message as a sum: 12 for the header; 4 for the question's type and class; for each record 10 for its
-- type, class, TTL and length, and those of its data outside its names; the first labels of the distinct suffixes; and
-- the ends of the names.
abbrev pub message_sum : Spelling → AxfrQuery → (Record → Parts) → List Record → List (List (List ℕ)) → ℕ
message_sum s query data_parts group suffixes =
    12 + 4 + sum_by (λ r. 10 + octets_in (data_parts r)) group
    + sum_by first_label suffixes + ends_cost (same_name s) [] (message_names query data_parts group)
