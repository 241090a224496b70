-- What is sent for a zone and a query, with every name written out (RFC 5936 2.2).
use Rattle.std.specs.Prelude.{◌<◌, ◌^◌, ◌≡◌, ℕ, List, [], ◌∷◌, ◌++◌, length, map, flat_map}
use Rattle.dns_label.specs.Name.{IsName, low}
use Rattle.zone.specs.View.{apex_of}
use Rattle.dns_header.specs.Header.{answer_header}
use Rattle.dns_header.specs.Question.{question_octets}
use Rattle.dns_message.specs.Record.{record_octets}
use Rattle.zone_records.specs.Record.{Record}
use Rattle.zone_core.specs.Query.{AxfrQuery, question_of}
use Rattle.zone_core.specs.Frames.{frames}
use Rattle.zone_core.specs.Cutting.{IsFullCut}

-- the message that carries a group of records: the header, the query's question, and the records
abbrev pub message : AxfrQuery → List Record → List ℕ
message query group =
    answer_header query.id query.recursion (length group) ++ question_octets (question_of query) ++ flat_map record_octets group

-- its number of octets
abbrev pub size : AxfrQuery → List Record → ℕ
size query group = length (message query group)

-- the zone's records and its SOA, the first of them, again
abbrev pub with_soa_again : List Record → List Record
with_soa_again [] = []
with_soa_again (soa ∷ others) = (soa ∷ others) ++ soa ∷ []

-- The stream is the frames of the full cut, in messages of at most `max` octets.
pub record IsSent (records : List Record) (query : AxfrQuery) (max : ℕ) (stream : List ℕ) : Type 0 where
  pub groups : List (List Record)
  pub cut : IsFullCut (size query) max (with_soa_again records) groups
  pub framed : stream ≡ frames (map (message query) groups)

-- the query asks for the zone, its name up to ASCII case
pub record AsksFor (query : AxfrQuery) (apex : List (List ℕ)) (class : ℕ) : Type 0 where
  pub name : low query.name ≡ low apex
  pub class_is : query.class ≡ class

-- A query that asks for the zone, and whose values fit in a message.
pub record IsQueryFor (records : List Record) (class : ℕ) (query : AxfrQuery) : Type 0 where
  pub id : query.id < 2 ^ 16
  pub name : IsName query.name
  pub class_fits : query.class < 2 ^ 16
  pub asks : AsksFor query (apex_of records) class
