-- A message after others is at fault, or it is an answer whose records keep the rules.
use Rattle.std.proofs.Common.{◌≡◌, ◌≢◌, ℕ, ◌+◌, ◌<◌, ◌≤◌, zero, suc, Bool, true, false, List, [], ◌∷◌, ◌++◌, length, refl, sym, subst, arith, append_assoc, append-nil, length-append, inl, inr}
use Rattle.std.specs.List.{AllByRecursion}
use Rattle.std.proofs.lemmas.Bool.{cases_lt, cases_eq}
use Rattle.dns_header.specs.Header.{answer_count}
use Rattle.zone_records.specs.Record.{Record}
use Rattle.zone_records.specs.Zone.{soa_type}
use Rattle.zone_core.specs.Query.{AxfrQuery}
use Rattle.dns_message.specs.Record.{ReadsRecord}
use Rattle.zone_core.specs.Transfer.{IsInZoneOf, SpellsRecords, HasAnswerHeader, IsAnswer}
use Rattle.zone_core.specs.Transfer.SpellsRecords.{none}
use Rattle.zone_receive.specs.Receiving.{IsOpen, IsClosed, KeepsRulesTo, IsMessageFault}
use Rattle.zone_receive.specs.declared.error.ReceiveError.{ReceiveError}
use Rattle.zone_receive.specs.declared.error.ReceiveError.TheVariants as receive_error
use Rattle.zone_records.proofs.Each.{all_append}
use Rattle.zone_records.proofs.OctetFronts.{AreOctets}
use Rattle.zone_receive.proofs.SpelledRecords.{spelled_push}
use Rattle.zone_receive.proofs.LawfulRecords.{IsLawful, closed_not_open}
use Rattle.zone_receive.proofs.MessageFaults.{record_rules, head_rules}
use Rattle.zone_core.proofs.OrderedRules.{FirstBroken, AllKept}
use Rattle.dns_message.proofs.DecidedRecords.{record_decided}
use Rattle.zone_receive.proofs.SpelledRecords.{read_has_data}
use Rattle.zone_records.specs.Typed.{HasLawfulData}
use Rattle.zone_receive.proofs.DecidedRules.{judged, record_rules_decided, head_rules_decided}

-- the verdict on a message, given the records before it
pub data Verdict (query : AxfrQuery) (front : List Record) (first : Bool) (message : List ℕ) : Type 0 where
  at_fault : (e : ReceiveError) → IsMessageFault query front first message e → Verdict query front first message
  answers : (group : List Record) → IsAnswer query first message group → IsLawful query (front ++ group)
      → AllByRecursion HasLawfulData group → Verdict query front first message

-- the first broken rule of the head is the fault
head_fault : (query : AxfrQuery) (front : List Record) (first : Bool) (message : List ℕ) (e : ReceiveError)
    → FirstBroken (head_rules query first message) e → IsMessageFault query front first message e
head_fault query front first message e (inl broken) =
    let P : ReceiveError → Type 0 = λ e. IsMessageFault query front first message e in
    subst P (sym broken.1) (short_of message broken.0)
  where
    short_of : (message : List ℕ) → (12 ≤ length message → ⊥) → length message < 12
    short_of message short = elim (cases_lt (length message) 12) [ inl few ↦ few | inr long ↦ absurd (short long) ]
head_fault query front first message e (inr (long, inl broken)) =
    let P : ReceiveError → Type 0 = λ e. IsMessageFault query front first message e in
    subst P (sym broken.1) (long, broken.0)
head_fault query front first message e (inr (long, inr (id, inl broken))) =
    let P : ReceiveError → Type 0 = λ e. IsMessageFault query front first message e in
    subst P (sym broken.1) (long, id, not_true _ broken.0)
  where
    not_true : (b : Bool) → (b ≡ true → ⊥) → b ≡ false
    not_true true no_true = absurd (no_true refl)
    not_true false no_true = refl
head_fault query front first message e (inr (long, inr (id, inr (response, inl broken)))) =
    let P : ReceiveError → Type 0 = λ e. IsMessageFault query front first message e in
    subst P (sym broken.1) (long, id, response, broken.0)
head_fault query front first message e (inr (long, inr (id, inr (response, inr (opcode, inl broken))))) =
    let P : ReceiveError → Type 0 = λ e. IsMessageFault query front first message e in
    subst P (sym broken.1) (long, id, response, opcode, refl, broken.0)
head_fault query front first message e (inr (long, inr (id, inr (response, inr (opcode, inr (rcode, inl broken)))))) =
    let P : ReceiveError → Type 0 = λ e. IsMessageFault query front first message e in
    subst P (sym broken.1) (long, id, response, opcode, rcode, broken.0)
head_fault query front first message e (inr (long, inr (id, inr (response, inr (opcode, inr (rcode, inr (counts, inl broken))))))) =
    let P : ReceiveError → Type 0 = λ e. IsMessageFault query front first message e in
    subst P (sym broken.1) (
      record { long = long; id = id; response = response; opcode = opcode; rcode = rcode; counts = counts },
      λ place asked. broken.0 (place, asked),
    )
head_fault query front first message e (inr (long, inr (id, inr (response, inr (opcode, inr (rcode, inr (counts, inr (asked, no_more)))))))) = absurd no_more

not_both : (query : AxfrQuery) (front : List Record) → IsOpen query front → IsClosed query front → ⊥
not_both query front open_ closed =
    let P : List Record → Type 0 = λ records. IsOpen query records in
    closed_not_open query front [] closed (subst P (sym (append-nil front)) open_)

-- the first rule that a record breaks is the fault of its message
record_fault : (query : AxfrQuery) (front : List Record) (first : Bool) (message : List ℕ) (group : List Record) (place next : ℕ) (r : Record)
    (e : ReceiveError) → KeepsRulesTo query front first message group place → length group < answer_count message
    → ReadsRecord message place r next → FirstBroken (record_rules query (front ++ group) r) e
    → IsMessageFault query front first message e
record_fault query front first message group place next r e keeps some has (inl broken) =
    let P : ReceiveError → Type 0 = λ e. IsMessageFault query front first message e in
    subst P (sym broken.1) (group, place, keeps, some, (r, next, has, broken.0))
record_fault query front first message group place next r e keeps some has (inr (one, inl broken)) =
    let P : ReceiveError → Type 0 = λ e. IsMessageFault query front first message e in
    subst P (sym broken.1) (group, place, keeps, some, (refl, r, next, has, one, broken.0))
record_fault query front first message group place next r e keeps some has (inr (one, inr (two, inl broken))) =
    let P : ReceiveError → Type 0 = λ e. IsMessageFault query front first message e in
    subst P (sym broken.1) (group, place, keeps, some, (refl, r, next, has, one, two, broken.0))
record_fault query front first message group place next r e keeps some has (inr (one, inr (two, inr (three, inl broken)))) =
    let P : ReceiveError → Type 0 = λ e. IsMessageFault query front first message e in
    subst P (sym broken.1) (group, place, keeps, some, (refl, r, next, has, one, two, three, broken.0))
record_fault query front first message group place next r e keeps some has (inr (one, inr (two, inr (three, inr (four, inl broken))))) =
    elim keeps.lawful [
      | inl open_ ↦ absurd (broken.0 (λ closed. not_both query (front ++ group) open_ closed))
      | inr closed ↦ (
          let P : ReceiveError → Type 0 = λ e. IsMessageFault query front first message e in
          subst P (sym broken.1) (group, place, keeps, some, (refl, r, next, has, one, two, three, four, closed)))
    ]
record_fault query front first message group place next r e keeps some has (inr (one, inr (two, inr (three, inr (four, inr (five, inl broken)))))) =
    let P : ReceiveError → Type 0 = λ e. IsMessageFault query front first message e in
    subst P (sym broken.1) (group, place, keeps, some, (refl, r, next, has, one, two, three, four, five, broken.0))
record_fault query front first message group place next r e keeps some has (inr (one, inr (two, inr (three, inr (four, inr (five, inr (six, no_more))))))) =
    absurd no_more

-- a record that keeps the rules after others extends them to a lawful list
lawful_push : (query : AxfrQuery) (front : List Record) (r : Record) → IsOpen query front → AllKept (record_rules query front r)
    → IsLawful query (front ++ r ∷ [])
lawful_push query [] r open_ (first, (class, (under, (last, (not_closed, (spellable, rest)))))) =
    inl (first.0, first.1, (record { class = class; under = under; spellable = spellable }, tt), tt)
lawful_push query (soa ∷ others) r open_ (first, (class, (under, (last, (not_closed, (spellable, rest)))))) =
    let is : IsInZoneOf query r = record { class = class; under = under; spellable = spellable } in
    elim (cases_eq r.rtype soa_type) [
      | inl soa_again ↦ inr (record {
        front = soa ∷ others;
        last = r;
        splits = refl;
        transferred = open_;
        closes = (soa_again, last soa_again);
      })
      | inr other ↦ inl (
        open_.0,
        open_.1,
        all_append (IsInZoneOf query) (soa ∷ others) (r ∷ []) open_.2 (is, tt),
        all_append (λ s. s.rtype ≢ soa_type) others (r ∷ []) open_.3 (other, tt),
      )
    ]

-- all records are judged
all_judged : (query : AxfrQuery) (front : List Record) (first : Bool) (message : List ℕ) (group : List Record) (place : ℕ)
    → KeepsRulesTo query front first message group place → AllByRecursion HasLawfulData group → length group ≡ answer_count message
    → Verdict query front first message
all_judged query front first message group place keeps data' all = elim (cases_eq place (length message)) [
  | inl ends ↦ (
      let P : ℕ → Type 0 = λ place. SpellsRecords message keeps.start group place in
      answers group (record {
        header = keeps.header;
        place = keeps.start;
        asked = keeps.asked;
        counted = sym all;
        spelled = subst P ends keeps.spelled;
      }) keeps.lawful data')
  | inr more ↦ at_fault receive_error.Trailing (group, place, keeps, all, more)
]

-- one more record that keeps the rules
keeps_push : (query : AxfrQuery) (front : List Record) (first : Bool) (message : List ℕ) (group : List Record) (place next : ℕ) (r : Record)
    → KeepsRulesTo query front first message group place → ReadsRecord message place r next
    → AllKept (record_rules query (front ++ group) r) → KeepsRulesTo query front first message (group ++ r ∷ []) next
keeps_push query front first message group place next r keeps has kept =
    let P : List Record → Type 0 = λ records. IsLawful query records in
    let goes : IsLawful query ((front ++ group) ++ r ∷ []) = elim keeps.lawful [
      | inl open_ ↦ lawful_push query (front ++ group) r open_ kept
      | inr closed ↦ absurd (kept.1.1.1.1.0 closed)
    ] in
    record {
      header = keeps.header;
      start = keeps.start;
      asked = keeps.asked;
      spelled = spelled_push r next keeps.spelled has;
      lawful = subst P (append_assoc front group (r ∷ [])) goes;
    }

-- the verdict, by the number of records that are left
judged_from : (query : AxfrQuery) (front : List Record) (first : Bool) (message : List ℕ) → AreOctets message → AllByRecursion HasLawfulData front
    → (left : ℕ) (group : List Record) (place : ℕ) → KeepsRulesTo query front first message group place → AllByRecursion HasLawfulData group
    → length group + left ≡ answer_count message → Verdict query front first message
judged_from query front first message each data' zero group place keeps group_data all =
    all_judged query front first message group place keeps group_data (omega arith)
judged_from query front first message each data' (suc left) group place keeps group_data all = elim (record_decided message place each) [
  | inr missing ↦ at_fault (receive_error.Record (length (front ++ group) + 1))
      (group, place, keeps, omega arith, (refl, λ r next has. missing (record { r = r; next = next; has = has })))
  | inl some ↦ (
      let r : Record = some.r in
      let data_is = read_has_data r some.has in
      let decided = record_rules_decided query (front ++ group) r (all_append HasLawfulData front group data' group_data) keeps.lawful data_is in
      elim (judged (record_rules query (front ++ group) r) decided) [
        | inl broken ↦ at_fault broken.0
            (record_fault query front first message group place some.next r broken.0 keeps (omega arith) some.has broken.1)
        | inr kept ↦ judged_from query front first message each data' left (group ++ r ∷ []) some.next
            (keeps_push query front first message group place some.next r keeps some.has kept)
            (all_append HasLawfulData group (r ∷ []) group_data (data_is, tt))
            (omega (arith, length-append group (r ∷ [])))
      ])
]

pub message_judged : (query : AxfrQuery) (front : List Record) (first : Bool) (message : List ℕ) → AreOctets message
    → AllByRecursion HasLawfulData front → IsOpen query front → Verdict query front first message
message_judged query front first message each data' open_ =
    elim (judged (head_rules query first message) (head_rules_decided query first message)) [
      | inl broken ↦ at_fault broken.0 (head_fault query front first message broken.0 broken.1)
      | inr kept ↦ (
          let header : HasAnswerHeader query message = record {
            long = kept.0;
            id = kept.1.0;
            response = kept.1.1.0;
            opcode = kept.1.1.1.0;
            rcode = kept.1.1.1.1.0;
            counts = kept.1.1.1.1.1.0;
          } in
          let asked = kept.1.1.1.1.1.1.0 in
          let P : List Record → Type 0 = λ records. IsLawful query records in
          judged_from query front first message each data' (answer_count message) [] asked.0 (record {
            header = header;
            start = asked.0;
            asked = asked.1;
            spelled = none;
            lawful = subst P (sym (append-nil front)) (inl open_);
          }) tt (omega arith))
    ]
