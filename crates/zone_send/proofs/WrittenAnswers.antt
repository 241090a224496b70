-- A message that is sent is an answer with its group of records.
use Rattle.std.proofs.Common.{◌≡◌, ℕ, ◌+◌, ◌*◌, ◌<◌, ◌≤◌, ◌^◌, Bool, false, List, [], ◌∷◌, ◌++◌, length, drop, map, refl, sym, ◌∙◌, subst, arith, append_assoc, append-nil, length-append, inr}
use Rattle.std.specs.Prelude.{flat_map}
use Rattle.std.specs.List.{AllByRecursion}
use Rattle.dns_label.proofs.Spelling.{drop_behind}
use Rattle.dns_header.specs.Question.{question_octets}
use Rattle.dns_message.specs.Record.{record_octets}
use Rattle.dns_header.proofs.Headers.{header_says}
use Rattle.dns_header.proofs.WrittenQuestions.{within_message, question-written}
use Rattle.dns_message.proofs.AsWritten.{least_record}
use Rattle.dns_message.proofs.WrittenRecords.{record-written}
use Rattle.zone_records.specs.Record.{Record}
use Rattle.zone_core.specs.Query.{AxfrQuery, question_of}
use Rattle.zone_core.specs.Frames.{IsFramable}
use Rattle.zone_records.specs.Records.{IsSendable}
use Rattle.zone_send.specs.Sent.{IsQueryFor, message, size}
use Rattle.zone_core.specs.Transfer.{SpellsRecords, IsAnswer, AreAnswers}
use Rattle.zone_core.specs.Transfer.SpellsRecords.{none, one}
use Rattle.zone_send.proofs.Plain.{size_is}

-- records take at least eleven octets each
records_are_few : (group : List Record) → 11 * length group ≤ length (flat_map record_octets group)
records_are_few [] = omega arith
records_are_few (r ∷ group) =
    omega (arith, least_record r, records_are_few group, length-append (record_octets r) (flat_map record_octets group))

-- records that are written out are read
records-written : (class : ℕ) (octets : List ℕ) (place : ℕ) (group : List Record) (rest : List ℕ)
    → drop place octets ≡ flat_map record_octets group ++ rest → place ≤ length octets → AllByRecursion (IsSendable class) group
    → SpellsRecords octets place group (place + length (flat_map record_octets group))
records-written class octets place [] rest at within each =
    let P : ℕ → Type 0 = λ next. SpellsRecords octets place [] next in subst P (omega arith) none
records-written class octets place (r ∷ group) rest at within each =
    let more : List ℕ = flat_map record_octets group ++ rest in
    let here : drop place octets ≡ record_octets r ++ more = at ∙ append_assoc (record_octets r) (flat_map record_octets group) rest in
    let room = within_message octets place (record_octets r) more here within in
    let behind : drop (place + length (record_octets r)) octets ≡ more = drop_behind octets place _ (record_octets r) more here refl in
    let first = record-written octets place r more here within each.0.lawful each.0.data_is in
    let goes = records-written class octets (place + length (record_octets r)) group rest behind (omega arith) each.1 in
    let P : ℕ → Type 0 = λ next. SpellsRecords octets place (r ∷ group) next in
    subst P (omega (arith, length-append (record_octets r) (flat_map record_octets group)))
    (one (place + length (record_octets r)) first goes)

-- the message of a group that isn't too large is an answer
answer-written : (query : AxfrQuery) (first : Bool) (class : ℕ) (records group : List Record) → IsQueryFor records class query
    → AllByRecursion (IsSendable class) group → size query group < 2 ^ 16
    → IsAnswer query first (message query group) group
answer-written query first class records group asks each small =
    let question : List ℕ = question_octets (question_of query) in
    let carried : List ℕ = flat_map record_octets group in
    let long = size_is query group in
    let few = records_are_few group in
    let says = header_says query.id query.recursion (length group) (question ++ carried) asks.id (omega arith) in
    let here : drop 12 (message query group) ≡ question ++ carried = refl in
    let read = question-written (message query group) 12 (question_of query) carried here (omega arith) asks.name (omega arith) asks.class_fits in
    let behind = drop_behind (message query group) 12 (12 + length question) question carried here refl in
    let goes = records-written class (message query group) (12 + length question) group [] (behind ∙ sym (append-nil carried)) (omega arith) each in
    let P : ℕ → Type 0 = λ next. SpellsRecords (message query group) (12 + length question) group next in
    record {
      header = record {
        long = omega arith;
        id = says.id_is;
        response = says.response;
        opcode = says.opcode;
        rcode = says.rcode;
        counts = record { questions = omega (arith, says.questions); authority = says.authority; additional = says.additional };
      };
      place = 12 + length question;
      asked = inr (says.questions, question_of query, read, record { name = refl; qtype = refl; qclass = refl });
      counted = says.answers_are;
      spelled = subst P (sym long) goes;
    }

-- messages of groups that aren't too large are answers
pub answers-written : (query : AxfrQuery) (first : Bool) (class : ℕ) (records : List Record) (groups : List (List Record))
    → IsQueryFor records class query → AllByRecursion (AllByRecursion (IsSendable class)) groups
    → AllByRecursion (λ group. size query group < 2 ^ 16) groups → AreAnswers query first (map (message query) groups) groups
answers-written query first class records [] asks each small = tt
answers-written query first class records (group ∷ groups) asks each small = (
  answer-written query first class records group asks each.0 small.0,
  answers-written query false class records groups asks each.1 small.1,
)

-- and their lengths fit in two octets
pub framable-written : (query : AxfrQuery) (groups : List (List Record)) → AllByRecursion (λ group. size query group < 2 ^ 16) groups
    → AllByRecursion IsFramable (map (message query) groups)
framable-written query [] small = tt
framable-written query (group ∷ groups) small = (small.0, framable-written query groups small.1)
