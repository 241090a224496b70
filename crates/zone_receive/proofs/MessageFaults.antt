-- A message has one first broken rule, and one that carries records of a transfer has none.
use Rattle.std.proofs.Common.{◌≡◌, ◌≢◌, ◌⊎◌, ℕ, ◌+◌, ◌<◌, ◌≤◌, Bool, true, false, List, ◌∷◌, ◌++◌, length, refl, sym, ap, ◌∙◌, subst, arith, append_assoc, inl, inr}
use Rattle.dns_header.specs.Header.{is_response, opcode_of, rcode_of, answer_count, id_of}
use Rattle.dns_rdata.specs.DataOctets.{IsSpellable}
use Rattle.zone_records.specs.Record.{Record}
use Rattle.zone_records.specs.Zone.{IsUnder}
use Rattle.zone_core.specs.Query.{AxfrQuery}
use Rattle.dns_message.specs.Record.{ReadsRecord}
use Rattle.zone_core.specs.Transfer.{AsksAgain, SpellsRecords, CountsAnswers, HasAnswerHeader, IsAnswer}
use Rattle.zone_receive.specs.Receiving.{IsClosed, KeepsFirstRule, KeepsLastRule, IsRecordFault, KeepsRulesTo, IsMessageFault}
use Rattle.zone_receive.specs.declared.error.ReceiveError.{ReceiveError}
use Rattle.zone_receive.specs.declared.error.ReceiveError.TheVariants as receive_error
use Rattle.zone_core.proofs.OneTransfer.{asked_one}
use Rattle.zone_receive.proofs.SpelledRecords.{SpelledPast, read_one, spelled_one, spelled_past}
use Rattle.zone_receive.proofs.LawfulRecords.{IsLawful, KeepsRecordRules, lawful_record}
use Rattle.zone_core.proofs.OrderedRules.{Rules, FirstBroken, AllKept, broken_not_kept}
use Rattle.zone_core.proofs.OrderedRules.Rules.{no_more, rule}

-- the rules of a record after others
abbrev pub record_rules : AxfrQuery → List Record → Record → Rules ReceiveError
record_rules query front r =
    rule (KeepsFirstRule query front r) receive_error.FirstNotSoa
    (rule (r.class ≡ query.class) (receive_error.Class (length front + 1))
    (rule (IsUnder query.name r.owner) (receive_error.OutOfZone (length front + 1))
    (rule (KeepsLastRule front r) (receive_error.SoaDiffers (length front + 1))
    (rule (IsClosed query front → ⊥) (receive_error.AfterLast (length front + 1))
    (rule (IsSpellable r.rtype r.rdata) (receive_error.Unspellable (length front + 1)) no_more)))))

pub all_record_rules : (query : AxfrQuery) (front : List Record) (r : Record) → KeepsRecordRules query front r
    → AllKept (record_rules query front r)
all_record_rules query front r keeps = (keeps.first, (keeps.class, (keeps.under, (keeps.last, (keeps.not_closed, (keeps.spellable, tt))))))

-- no record is at the place
pub record NoRecord (message : List ℕ) (place : ℕ) (n : ℕ) (e : ReceiveError) : Type 0 where
  pub is : e ≡ receive_error.Record n
  pub none : (r : Record) (next : ℕ) → ReadsRecord message place r next → ⊥

-- the record at the place breaks a rule
pub record BadRecord (query : AxfrQuery) (front : List Record) (message : List ℕ) (place : ℕ) (e : ReceiveError) : Type 0 where
  pub r : Record
  pub next : ℕ
  pub has : ReadsRecord message place r next
  pub broken : FirstBroken (record_rules query front r) e

abbrev pub RecordBroken : AxfrQuery → List Record → List ℕ → ℕ → ReceiveError → Type 0
RecordBroken query front message place e =
    NoRecord message place (length front + 1) e ⊎ BadRecord query front message place e

pub record_kind : (query : AxfrQuery) (front : List Record) (message : List ℕ) (place : ℕ) (e : ReceiveError)
    → IsRecordFault query front message place e → RecordBroken query front message place e
record_kind query front message place (receive_error.Record n) fault =
    inl (record { is = ap receive_error.Record fault.0; none = fault.1 })
record_kind query front message place receive_error.FirstNotSoa fault =
    inr (record { r = fault.0; next = fault.1; has = fault.2; broken = inl (fault.3, refl) })
record_kind query front message place (receive_error.Class n) fault =
    inr (record { r = fault.1; next = fault.2; has = fault.3; broken = inr (fault.4, inl (fault.5, ap receive_error.Class fault.0)) })
record_kind query front message place (receive_error.OutOfZone n) fault = inr (record {
  r = fault.1;
  next = fault.2;
  has = fault.3;
  broken = inr (fault.4, inr (fault.5, inl (fault.6, ap receive_error.OutOfZone fault.0)));
})
record_kind query front message place (receive_error.SoaDiffers n) fault = inr (record {
  r = fault.1;
  next = fault.2;
  has = fault.3;
  broken = inr (fault.4, inr (fault.5, inr (fault.6, inl (fault.7, ap receive_error.SoaDiffers fault.0))));
})
record_kind query front message place (receive_error.AfterLast n) fault = inr (record {
  r = fault.1;
  next = fault.2;
  has = fault.3;
  broken = inr (fault.4, inr (fault.5, inr (fault.6, inr (fault.7, inl ((λ none. none fault.8), ap receive_error.AfterLast fault.0)))));
})
record_kind query front message place (receive_error.Unspellable n) fault = inr (record {
  r = fault.1;
  next = fault.2;
  has = fault.3;
  broken =
      inr (fault.4, inr (fault.5, inr (fault.6, inr (fault.7, inr (fault.8, inl (fault.9, ap receive_error.Unspellable fault.0))))));
})
record_kind query front message place e fault = absurd fault

-- the rules of a message up to its records
abbrev pub head_rules : AxfrQuery → Bool → List ℕ → Rules ReceiveError
head_rules query first message =
    rule (12 ≤ length message) receive_error.Short
    (rule (id_of message ≡ query.id) receive_error.Id
    (rule (is_response message ≡ true) receive_error.NotResponse
    (rule (opcode_of message ≡ 0) receive_error.Opcode
    (rule (rcode_of message ≡ 0) (receive_error.Rcode (rcode_of message))
    (rule (CountsAnswers message) receive_error.Counts
    (rule ((place : ℕ) × AsksAgain query first message place) receive_error.Question no_more))))))

pub all_head_rules : (query : AxfrQuery) (first : Bool) (message : List ℕ) (place : ℕ) → HasAnswerHeader query message
    → AsksAgain query first message place → AllKept (head_rules query first message)
all_head_rules query first message place header asked =
    (header.long, (header.id, (header.response, (header.opcode, (header.rcode, (header.counts, ((place, asked), tt)))))))

-- octets follow the records
pub record HasMore (query : AxfrQuery) (front : List Record) (first : Bool) (message : List ℕ) (e : ReceiveError) : Type 0 where
  pub group : List Record
  pub place : ℕ
  pub keeps : KeepsRulesTo query front first message group place
  pub all : length group ≡ answer_count message
  pub more : place ≢ length message
  pub is : e ≡ receive_error.Trailing

-- a record is missing or breaks a rule
pub record HasBadRecord (query : AxfrQuery) (front : List Record) (first : Bool) (message : List ℕ) (e : ReceiveError) : Type 0 where
  pub group : List Record
  pub place : ℕ
  pub keeps : KeepsRulesTo query front first message group place
  pub some : length group < answer_count message
  pub bad : RecordBroken query (front ++ group) message place e

pub data MessageBroken (query : AxfrQuery) (front : List Record) (first : Bool) (message : List ℕ) (e : ReceiveError) : Type 0 where
  head : FirstBroken (head_rules query first message) e → MessageBroken query front first message e
  trailing : HasMore query front first message e → MessageBroken query front first message e
  at_record : HasBadRecord query front first message e → MessageBroken query front first message e

pub message_kind : (query : AxfrQuery) (front : List Record) (first : Bool) (message : List ℕ) (e : ReceiveError)
    → IsMessageFault query front first message e → MessageBroken query front first message e
message_kind query front first message receive_error.Short fault = head (inl ((λ long. omega arith), refl))
message_kind query front first message receive_error.Id fault = head (inr (fault.0, inl (fault.1, refl)))
message_kind query front first message receive_error.NotResponse fault =
    head (inr (fault.0, inr (fault.1, inl ((λ is. let no : false ≡ true = sym fault.2 ∙ is in absurd cc), refl))))
message_kind query front first message receive_error.Opcode fault =
    head (inr (fault.0, inr (fault.1, inr (fault.2, inl (fault.3, refl)))))
message_kind query front first message (receive_error.Rcode rcode) fault =
    head (inr (fault.0, inr (fault.1, inr (fault.2, inr (fault.3, inl ((λ none. fault.5 (fault.4 ∙ none)), ap receive_error.Rcode fault.4))))))
message_kind query front first message receive_error.Counts fault =
    head (inr (fault.0, inr (fault.1, inr (fault.2, inr (fault.3, inr (fault.4, inl (fault.5, refl)))))))
message_kind query front first message receive_error.Question fault =
    let header = fault.0 in
    head (inr (
      header.long,
      inr (
        header.id,
        inr (
          header.response,
          inr (
            header.opcode,
            inr (
              header.rcode,
              inr (
                header.counts,
                inl ((λ asks. fault.1 asks.0 asks.1), refl),
              ),
            ),
          ),
        ),
      ),
    ))
message_kind query front first message receive_error.Trailing fault =
    trailing (record { group = fault.0; place = fault.1; keeps = fault.2; all = fault.3; more = fault.4; is = refl })
message_kind query front first message e fault = at_record (record {
  group = fault.0;
  place = fault.1;
  keeps = fault.2;
  some = fault.3;
  bad = record_kind query (front ++ fault.0) message fault.1 e fault.4;
})

-- if the head is bad, nothing is read after it
pub head_is_kept : (query : AxfrQuery) (front : List Record) (first : Bool) (message : List ℕ) (group : List Record) (place : ℕ)
    → KeepsRulesTo query front first message group place → AllKept (head_rules query first message)
head_is_kept query front first message group place keeps = all_head_rules query first message keeps.start keeps.header keeps.asked

-- records from the one place after the question on
pub same_start : (query : AxfrQuery) (first : Bool) (message : List ℕ) (start start' : ℕ) → AsksAgain query first message start
    → AsksAgain query first message start' → start' ≡ start
same_start query first message start start' asked asked' =
    asked_one query first message start' start asked' asked

-- if more records are lawful, the record after the first of them is not bad
pub bad_no_more : (query : AxfrQuery) (front : List Record) (message : List ℕ) (group all : List Record) (place : ℕ) (e : ReceiveError)
    (more : List Record) → SpelledPast message group all place → IsLawful query (front ++ (all ++ more))
    → RecordBroken query (front ++ group) message place e → ⊥
bad_no_more query front message group all place e more past lawful (inl missing) = missing.none past.r past.end past.has
bad_no_more query front message group all place e more past lawful (inr bad) =
    let are : front ++ (all ++ more) ≡ (front ++ group) ++ past.r ∷ (past.more ++ more) =
    ap (λ l. front ++ (l ++ more)) past.are ∙ ap (λ l. front ++ l) (append_assoc group (past.r ∷ past.more) more)
    ∙ sym (append_assoc front group (past.r ∷ (past.more ++ more))) in
    let P : List Record → Type 0 = λ records. IsLawful query records in
    let keeps = lawful_record query (front ++ group) past.r (past.more ++ more) (subst P are lawful) in
    let one = read_one past.r bad.r past.has bad.has in
    let Q : Record → Type 0 = λ r. KeepsRecordRules query (front ++ group) r in
    broken_not_kept (record_rules query (front ++ group) bad.r) e bad.broken
    (all_record_rules query (front ++ group) bad.r (subst Q one.0 keeps))

-- A message that is an answer with lawful records has no fault.
pub answer_not_broken : (query : AxfrQuery) (front : List Record) (first : Bool) (message : List ℕ) (e : ReceiveError) (group more : List Record)
    → IsAnswer query first message group → IsLawful query (front ++ (group ++ more))
    → MessageBroken query front first message e → ⊥
answer_not_broken query front first message e group more answer lawful (head broken) =
    broken_not_kept (head_rules query first message) e broken
    (all_head_rules query first message answer.place answer.header answer.asked)
answer_not_broken query front first message e group more answer lawful (trailing fault) =
    let keeps = fault.keeps in
    let starts = same_start query first message keeps.start answer.place keeps.asked answer.asked in
    let P : ℕ → Type 0 = λ start. SpellsRecords message start group (length message) in
    let one = spelled_one message fault.group group keeps.start fault.place (length message) (fault.all ∙ answer.counted) keeps.spelled
    (subst P starts answer.spelled) in
    fault.more one.1
answer_not_broken query front first message e group more answer lawful (at_record fault) =
    let keeps = fault.keeps in
    let starts = same_start query first message keeps.start answer.place keeps.asked answer.asked in
    let P : ℕ → Type 0 = λ start. SpellsRecords message start group (length message) in
    let fewer : length fault.group < length group = omega (arith, fault.some, answer.counted) in
    let past = spelled_past message fault.group group keeps.start fault.place (length message) fewer keeps.spelled
    (subst P starts answer.spelled) in
    bad_no_more query front message fault.group group fault.place e more past lawful fault.bad
