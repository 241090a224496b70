-- A query for a zone's transfer (RFC 5936 2.1), and the first rule that other octets break.
use Rattle.std.specs.Prelude.{◌≡◌, ◌≢◌, ◌≤◌, ◌<◌, ℕ, Bool, true, false, List, [], ◌∷◌, ◌++◌, length}
use Rattle.std.specs.Int.{to_be_bytes, w16}
use Rattle.dns_header.specs.Header.{is_response, opcode_of, question_count, answer_count, authority_count, additional_count, id_of, recursion_desired}
use Rattle.dns_header.specs.Question.{Question, ReadsQuestion, question_octets}
use Rattle.zone_records.specs.Zone.{any_class, axfr_type}
use Rattle.zone_core.specs.declared.query_error.QueryError.{QueryError}
use Rattle.zone_core.specs.declared.query_error.QueryError.TheVariants.{Short, Response, Opcode, Counts, Malformed, NotAxfr, ClassAny, Trailing}

-- the counts of a message with one question and nothing else
pub record AsksOne (message : List ℕ) : Type 0 where
  pub questions : question_count message ≡ 1
  pub answers : answer_count message ≡ 0
  pub authority : authority_count message ≡ 0
  pub additional : additional_count message ≡ 0

-- what a query for a transfer asks
pub record AxfrQuery : Type 0 where
  pub id : ℕ
  pub recursion : Bool
  pub name : List (List ℕ)
  pub class : ℕ

-- the question for the transfer of the zone of a name and a class
abbrev pub question_for : List (List ℕ) → ℕ → Question
question_for name class = record { name = name; qtype = axfr_type; qclass = class }

abbrev pub question_of : AxfrQuery → Question
question_of query = question_for query.name query.class

-- the counts of a message with one question and no record, as octets
abbrev pub one_question : List ℕ
one_question = 0 ∷ 1 ∷ 0 ∷ 0 ∷ 0 ∷ 0 ∷ 0 ∷ 0 ∷ []

-- the octets of a query with its flags clear (RFC 5936 2.1)
abbrev pub query_octets : AxfrQuery → List ℕ
query_octets query =
    to_be_bytes w16 query.id ++ 0 ∷ 0 ∷ one_question ++ question_octets (question_of query)

-- the rules that a message keeps, up to its question
pub record KeepsHeaderRules (message : List ℕ) : Type 0 where
  pub long : 12 ≤ length message
  pub query : is_response message ≡ false
  pub opcode : opcode_of message ≡ 0
  pub counts : AsksOne message

-- The octets are a query for a transfer, with these values.
pub record IsQuery (message : List ℕ) (query : AxfrQuery) : Type 0 where
  pub header : KeepsHeaderRules message
  pub id : query.id ≡ id_of message
  pub recursion : query.recursion ≡ recursion_desired message
  pub question : ReadsQuestion message 12 (question_of query) (length message)
  pub class_known : query.class ≢ any_class

-- the first rule that is broken, in the order of the variants
abbrev pub IsQueryFault : List ℕ → QueryError → Type 0
IsQueryFault message Short = length message < 12
IsQueryFault message Response = (12 ≤ length message) × (is_response message ≡ true)
IsQueryFault message Opcode = (12 ≤ length message) × (is_response message ≡ false) × (opcode_of message ≢ 0)
IsQueryFault message Counts =
    (12 ≤ length message) × (is_response message ≡ false) × (opcode_of message ≡ 0) × (AsksOne message → ⊥)
IsQueryFault message Malformed =
    KeepsHeaderRules message × ((q : Question) (next : ℕ) → ReadsQuestion message 12 q next → ⊥)
IsQueryFault message NotAxfr =
    KeepsHeaderRules message × (q : Question) × (next : ℕ) × ReadsQuestion message 12 q next × (q.qtype ≢ axfr_type)
IsQueryFault message ClassAny =
    KeepsHeaderRules message × (q : Question) × (next : ℕ) × ReadsQuestion message 12 q next × (q.qtype ≡ axfr_type)
    × (q.qclass ≡ any_class)
IsQueryFault message Trailing =
    KeepsHeaderRules message × (q : Question) × (next : ℕ) × ReadsQuestion message 12 q next × (q.qtype ≡ axfr_type)
    × (q.qclass ≢ any_class) × (next ≢ length message)
