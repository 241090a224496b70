-- A message has one first broken rule.
use Rattle.std.proofs.Common.{◌≡◌, ℕ, ◌<◌, Bool, List, [], ◌++◌, length, sym, ◌∙◌, subst, arith, append-nil, inl, inr}
use Rattle.std.proofs.lemmas.Bool.{cases_order}
use Rattle.zone_records.specs.Record.{Record}
use Rattle.zone_core.specs.Query.{AxfrQuery}
use Rattle.zone_core.specs.Transfer.{SpellsRecords}
use Rattle.zone_receive.specs.Receiving.{KeepsRulesTo}
use Rattle.zone_receive.specs.declared.error.ReceiveError.{ReceiveError}
use Rattle.zone_receive.proofs.SpelledRecords.{read_one, spelled_one, spelled_past}
use Rattle.zone_receive.proofs.LawfulRecords.{IsLawful}
use Rattle.zone_receive.proofs.MessageFaults.{RecordBroken, HasMore, HasBadRecord, MessageBroken, record_rules, head_rules, head_is_kept, same_start, bad_no_more}
use Rattle.zone_core.proofs.OrderedRules.{FirstBroken, first_one, broken_not_kept}
use Rattle.zone_receive.proofs.MessageFaults.MessageBroken.{head, trailing, at_record}

-- the same for a record at a place
bad_one : (query : AxfrQuery) (front : List Record) (message : List ℕ) (place : ℕ) (e d : ReceiveError)
    → RecordBroken query front message place e → RecordBroken query front message place d → e ≡ d
bad_one query front message place e d (inl missing) (inl missing') = missing.is ∙ sym missing'.is
bad_one query front message place e d (inl missing) (inr bad) = absurd (missing.none bad.r bad.next bad.has)
bad_one query front message place e d (inr bad) (inl missing) = absurd (missing.none bad.r bad.next bad.has)
bad_one query front message place e d (inr bad) (inr bad') =
    let one = read_one bad'.r bad.r bad'.has bad.has in
    let P : Record → Type 0 = λ r. FirstBroken (record_rules query front r) d in
    first_one (record_rules query front bad.r) e d bad.broken (subst P one.0 bad'.broken)

-- of two lists of records that keep the rules, the longer continues the other
kept_no_more : (query : AxfrQuery) (front : List Record) (first : Bool) (message : List ℕ) (group all : List Record) (place next : ℕ)
    (e : ReceiveError) → KeepsRulesTo query front first message group place → KeepsRulesTo query front first message all next
    → length group < length all → RecordBroken query (front ++ group) message place e → ⊥
kept_no_more query front first message group all place next e keeps keeps' fewer bad =
    let starts = same_start query first message keeps.start keeps'.start keeps.asked keeps'.asked in
    let P : ℕ → Type 0 = λ start. SpellsRecords message start all next in
    let past = spelled_past message group all keeps.start place next fewer keeps.spelled (subst P starts keeps'.spelled) in
    let Q : List Record → Type 0 = λ records. IsLawful query (front ++ records) in
    bad_no_more query front message group all place e [] past (subst Q (sym (append-nil all)) keeps'.lawful) bad

records_one : (query : AxfrQuery) (front : List Record) (first : Bool) (message : List ℕ) (e d : ReceiveError)
    → HasBadRecord query front first message e → HasBadRecord query front first message d → e ≡ d
records_one query front first message e d a b = elim (cases_order (length a.group) (length b.group)) [
  | inl same ↦ (
      let starts = same_start query first message a.keeps.start b.keeps.start a.keeps.asked b.keeps.asked in
      let P : ℕ → Type 0 = λ start. SpellsRecords message start b.group b.place in
      let one = spelled_one message a.group b.group a.keeps.start a.place b.place same a.keeps.spelled
      (subst P starts b.keeps.spelled) in
      let Q : List Record → Type 0 = λ group. RecordBroken query (front ++ group) message b.place d in
      let R : ℕ → Type 0 = λ place. RecordBroken query (front ++ a.group) message place d in
      bad_one query (front ++ a.group) message a.place e d a.bad (subst R (sym one.1) (subst Q (sym one.0) b.bad)))
  | inr (inl fewer) ↦ absurd (kept_no_more query front first message a.group b.group a.place b.place e a.keeps b.keeps fewer a.bad)
  | inr (inr fewer) ↦ absurd (kept_no_more query front first message b.group a.group b.place a.place d b.keeps a.keeps fewer b.bad)
]

more_no_bad : (query : AxfrQuery) (front : List Record) (first : Bool) (message : List ℕ) (e d : ReceiveError)
    → HasMore query front first message e → HasBadRecord query front first message d → ⊥
more_no_bad query front first message e d more bad =
    kept_no_more query front first message bad.group more.group bad.place more.place d bad.keeps more.keeps
    (omega (arith, bad.some, more.all)) bad.bad

-- the same for a message
pub message_fault_one : (query : AxfrQuery) (front : List Record) (first : Bool) (message : List ℕ) (e d : ReceiveError)
    → MessageBroken query front first message e → MessageBroken query front first message d → e ≡ d
message_fault_one query front first message e d (head broken) (head broken') = first_one (head_rules query first message) e d broken broken'
message_fault_one query front first message e d (head broken) (trailing more) =
    absurd (broken_not_kept (head_rules query first message) e broken (head_is_kept query front first message more.group more.place more.keeps))
message_fault_one query front first message e d (head broken) (at_record bad) =
    absurd (broken_not_kept (head_rules query first message) e broken (head_is_kept query front first message bad.group bad.place bad.keeps))
message_fault_one query front first message e d (trailing more) (head broken) =
    absurd (broken_not_kept (head_rules query first message) d broken (head_is_kept query front first message more.group more.place more.keeps))
message_fault_one query front first message e d (trailing more) (trailing more') = more.is ∙ sym more'.is
message_fault_one query front first message e d (trailing more) (at_record bad) = absurd (more_no_bad query front first message e d more bad)
message_fault_one query front first message e d (at_record bad) (head broken) =
    absurd (broken_not_kept (head_rules query first message) d broken (head_is_kept query front first message bad.group bad.place bad.keeps))
message_fault_one query front first message e d (at_record bad) (trailing more) = absurd (more_no_bad query front first message d e more bad)
message_fault_one query front first message e d (at_record bad) (at_record bad') = records_one query front first message e d bad bad'
