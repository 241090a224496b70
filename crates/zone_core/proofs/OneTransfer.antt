-- A stream is a transfer of one list of records.
use Rattle.std.proofs.Common.{◌≡◌, ℕ, Bool, true, false, List, [], ◌∷◌, ◌++◌, length, refl, sym, ap, ◌∙◌, subst, arith, append_assoc, append-nil, inl, inr}
use Rattle.std.proofs.lemmas.List.{same_from_push}
use Rattle.std.proofs.lemmas.List.Concat.{flat_map-append}
use Rattle.dns_message.proofs.ReadRecords.{record_one}
use Rattle.zone_records.specs.Record.{Record}
use Rattle.zone_core.specs.Query.{AxfrQuery}
use Rattle.zone_core.specs.Cutting.{joined}
use Rattle.dns_message.specs.Record.{ReadsRecord}
use Rattle.zone_core.specs.Transfer.{AsksAgain, SpellsRecords, IsAnswer, AreAnswers, IsTransfer}
use Rattle.zone_core.specs.Transfer.SpellsRecords.{none, one}
use Rattle.zone_core.proofs.Framing.{whole_frames_one}
use Rattle.zone_core.proofs.OneQuery.{question_one}

-- the first record that is spelled, and those after it
record FirstRecord (message : List ℕ) (place : ℕ) (r : Record) (records : List Record) (next : ℕ) : Type 0 where
  end : ℕ
  has : ReadsRecord message place r end
  behind : SpellsRecords message end records next

abbrev OpenedRecords : List ℕ → ℕ → List Record → ℕ → Type 0
OpenedRecords message place [] next = Unit {0}
OpenedRecords message place (r ∷ records) next = FirstRecord message place r records next

opened : {message : List ℕ} {place next : ℕ} {records : List Record} → SpellsRecords message place records next
    → OpenedRecords message place records next
opened none = tt
opened (one end has behind) = record { end = end; has = has; behind = behind }

-- lists of as many records that are spelled from one place on are the same
records_one : (message : List ℕ) (records others : List Record) (place next next' : ℕ) → length records ≡ length others
    → SpellsRecords message place records next → SpellsRecords message place others next' → records ≡ others
records_one message [] [] place next next' many spelled spelled' = refl
records_one message [] (s ∷ others) place next next' many spelled spelled' = absurd (omega arith)
records_one message (r ∷ records) [] place next next' many spelled spelled' = absurd (omega arith)
records_one message (r ∷ records) (s ∷ others) place next next' many spelled spelled' =
    let first = opened spelled in
    let first' = opened spelled' in
    let same = record_one r s first.has.is_record first'.has.is_record first.has.read first'.has.read first.has.spelled first'.has.spelled in
    let P : ℕ → Type 0 = λ end. SpellsRecords message end others next' in
    let rest = records_one message records others first.end next next' (omega arith) first.behind (subst P (sym same.1) first'.behind) in
    cc (same.0, rest)

-- the place after the question
pub asked_one : (query : AxfrQuery) (first : Bool) (message : List ℕ) (place place' : ℕ) → AsksAgain query first message place
    → AsksAgain query first message place' → place ≡ place'
asked_one query first message place place' (inl bare) (inl bare') = bare.2 ∙ sym bare'.2
asked_one query first message place place' (inl bare) (inr asks) = absurd (omega (arith, bare.1, asks.0))
asked_one query first message place place' (inr asks) (inl bare) = absurd (omega (arith, bare.1, asks.0))
asked_one query first message place place' (inr asks) (inr asks') = (question_one asks.2 asks'.2).1

-- an answer has one list of records
pub answer_one : (query : AxfrQuery) (first : Bool) (message : List ℕ) (records others : List Record)
    → IsAnswer query first message records → IsAnswer query first message others → records ≡ others
answer_one query first message records others answer answer' =
    let places = asked_one query first message answer.place answer'.place answer.asked answer'.asked in
    let P : ℕ → Type 0 = λ place. SpellsRecords message place others (length message) in
    records_one message records others answer.place (length message) (length message) (sym answer.counted ∙ answer'.counted)
    answer.spelled (subst P (sym places) answer'.spelled)

pub answers_one : (query : AxfrQuery) (first : Bool) (messages : List (List ℕ)) (groups others : List (List Record))
    → AreAnswers query first messages groups → AreAnswers query first messages others → groups ≡ others
answers_one query first [] [] [] answers answers' = refl
answers_one query first [] [] (other ∷ others) answers answers' = absurd answers'
answers_one query first [] (group ∷ groups) others answers answers' = absurd answers
answers_one query first (message ∷ messages) [] others answers answers' = absurd answers
answers_one query first (message ∷ messages) (group ∷ groups) [] answers answers' = absurd answers'
answers_one query first (message ∷ messages) (group ∷ groups) (other ∷ others) answers answers' =
    let same = answer_one query first message group other answers.0 answers'.0 in
    let rest = answers_one query false messages groups others answers.1 answers'.1 in
    cc (same, rest)

-- the groups of a transfer, joined
pub transferred_and_last : (query : AxfrQuery) (stream : List ℕ) (records : List Record)
    (transfer : IsTransfer query stream records) → joined transfer.groups ≡ records ++ transfer.last ∷ []
transferred_and_last query stream records transfer =
    let last : List Record = transfer.last_group ++ transfer.last ∷ [] in
    ap joined transfer.splits ∙ flat_map-append (λ group. group) transfer.front (last ∷ [])
    ∙ ap (λ l. joined transfer.front ++ l) (append-nil last)
    ∙ sym (append_assoc (joined transfer.front) transfer.last_group (transfer.last ∷ []))
    ∙ ap (λ l. l ++ transfer.last ∷ []) transfer.joins

-- A stream is a transfer of one list of records.
pub transfer_one : (query : AxfrQuery) (stream : List ℕ) (records others : List Record) → IsTransfer query stream records
    → IsTransfer query stream others → records ≡ others
transfer_one query stream records others transfer transfer' =
    let messages : transfer.messages ≡ transfer'.messages =
    whole_frames_one transfer.messages transfer'.messages transfer.each transfer'.each (sym transfer.whole ∙ transfer'.whole) in
    let P : List (List ℕ) → Type 0 = λ messages. AreAnswers query true messages transfer'.groups in
    let groups = answers_one query true transfer.messages transfer.groups transfer'.groups transfer.answers
    (subst P (sym messages) transfer'.answers) in
    let both = same_from_push records others transfer.last transfer'.last
    (sym (transferred_and_last query stream records transfer) ∙ ap joined groups ∙ transferred_and_last query stream others transfer') in
    both.0
