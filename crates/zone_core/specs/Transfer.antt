-- Which stream is the transfer of a zone in answer to a query (RFC 5936 2.2).
use Rattle.std.specs.Prelude.{◌≡◌, ◌≢◌, ◌≤◌, ◌⊎◌, ℕ, Bool, true, false, List, [], ◌∷◌, ◌++◌, length}
use Rattle.std.specs.List.{AllByRecursion}
use Rattle.dns_label.specs.Name.{low}
use Rattle.dns_header.specs.Header.{is_response, opcode_of, rcode_of, question_count, answer_count, authority_count, additional_count, id_of}
use Rattle.dns_header.specs.Question.{Question, ReadsQuestion}
use Rattle.dns_message.specs.Record.{ReadsRecord}
use Rattle.zone_records.specs.Record.{Record}
use Rattle.zone_records.specs.DataOctets.{IsSpellable}
use Rattle.zone_records.specs.Records.{SameSoa}
use Rattle.zone_records.specs.Zone.{IsUnder, axfr_type, soa_type}
use Rattle.zone_core.specs.Query.{AxfrQuery}
use Rattle.zone_core.specs.Frames.{frames, IsFramable}
use Rattle.zone_core.specs.Cutting.{joined}

-- the question is the query's, its name up to ASCII case
pub record IsQuestionOf (query : AxfrQuery) (q : Question) : Type 0 where
  pub name : low q.name ≡ low query.name
  pub qtype : q.qtype ≡ axfr_type
  pub qclass : q.qclass ≡ query.class

-- The message has the query's question and the place is after it, or has no question and the place is after the header.
-- The first message has the question.
abbrev pub AsksAgain : AxfrQuery → Bool → List ℕ → ℕ → Type 0
AsksAgain query first message place =
    ((first ≡ false) × (question_count message ≡ 0) × (place ≡ 12))
    ⊎ ((question_count message ≡ 1) × (q : Question) × ReadsQuestion message 12 q place × IsQuestionOf query q)

-- the message spells the records one after another, and `next` is the place after the last
pub data SpellsRecords (message : List ℕ) : ℕ → List Record → ℕ → Type 0 where
  none : {place : ℕ} → SpellsRecords message place [] place
  one : {place next : ℕ} {r : Record} {records : List Record} (behind : ℕ) → ReadsRecord message place r behind
      → SpellsRecords message behind records next → SpellsRecords message place (r ∷ records) next

-- the counts of a message with answers only, and at most one question
pub record CountsAnswers (message : List ℕ) : Type 0 where
  pub questions : question_count message ≤ 1
  pub authority : authority_count message ≡ 0
  pub additional : additional_count message ≡ 0

-- The header of an answer to the query. Other bits are ignored.
pub record HasAnswerHeader (query : AxfrQuery) (message : List ℕ) : Type 0 where
  pub long : 12 ≤ length message
  pub id : id_of message ≡ query.id
  pub response : is_response message ≡ true
  pub opcode : opcode_of message ≡ 0
  pub rcode : rcode_of message ≡ 0
  pub counts : CountsAnswers message

-- An answer to the query that carries these records and nothing else.
pub record IsAnswer (query : AxfrQuery) (first : Bool) (message : List ℕ) (records : List Record) : Type 0 where
  pub header : HasAnswerHeader query message
  pub place : ℕ
  pub asked : AsksAgain query first message place
  pub counted : answer_count message ≡ length records
  pub spelled : SpellsRecords message place records (length message)

-- each message is an answer with its group of records
abbrev pub AreAnswers : AxfrQuery → Bool → List (List ℕ) → List (List Record) → Type 0
AreAnswers query first [] [] = Unit {0}
AreAnswers query first [] (group ∷ groups) = ⊥
AreAnswers query first (message ∷ messages) [] = ⊥
AreAnswers query first (message ∷ messages) (group ∷ groups) =
    IsAnswer query first message group × AreAnswers query false messages groups

-- what holds of every record of a transfer
pub record IsInZoneOf (query : AxfrQuery) (r : Record) : Type 0 where
  pub class : r.class ≡ query.class
  pub under : IsUnder query.name r.owner
  pub spellable : IsSpellable r.rtype r.rdata

-- The records of a transfer without the last SOA: the first is the SOA of the query's name, and no other is an SOA.
abbrev pub IsTransferred : AxfrQuery → List Record → Type 0
IsTransferred query [] = ⊥
IsTransferred query (soa ∷ others) =
    (soa.rtype ≡ soa_type) × (low soa.owner ≡ low query.name) × AllByRecursion (IsInZoneOf query) (soa ∷ others)
    × AllByRecursion (λ r. r.rtype ≢ soa_type) others

-- the last SOA equals the first
abbrev pub ClosesTransfer : List Record → Record → Type 0
ClosesTransfer [] last = ⊥
ClosesTransfer (soa ∷ others) last = (last.rtype ≡ soa_type) × SameSoa soa last

-- The stream is whole frames, each an answer to the query. Their records are these and then the SOA again, as the last
-- record of the last message.
pub record IsTransfer (query : AxfrQuery) (stream : List ℕ) (records : List Record) : Type 0 where
  pub messages : List (List ℕ)
  pub each : AllByRecursion IsFramable messages
  pub whole : stream ≡ frames messages
  pub groups : List (List Record)
  pub answers : AreAnswers query true messages groups
  pub last : Record
  pub front : List (List Record)
  pub last_group : List Record
  pub splits : groups ≡ front ++ (last_group ++ last ∷ []) ∷ []
  pub joins : joined front ++ last_group ≡ records
  pub transferred : IsTransferred query records
  pub closed : ClosesTransfer records last

-- the record is the first of these, octet for octet
abbrev pub IsFirst : List Record → Record → Type 0
IsFirst [] last = ⊥
IsFirst (soa ∷ others) last = last ≡ soa

-- A transfer whose last SOA equals the first record octet for octet, not only up to ASCII case.
pub record IsExactTransfer (query : AxfrQuery) (stream : List ℕ) (records : List Record) : Type 0 where
  pub transfer : IsTransfer query stream records
  pub again : IsFirst records transfer.last
