-- Each rule of a message is kept or broken, so the first broken one is found.
use Rattle.std.proofs.Common.{◌≡◌, ◌⊎◌, ℕ, ◌≤◌, Bool, true, false, List, [], ◌∷◌, length, map, Some, None, refl, sym, ap, ◌∙◌, subst, arith, append-nil, inl, inr}
use Rattle.std.specs.Prelude.{⊤}
use Rattle.std.specs.List.{AllByRecursion}
use Rattle.std.proofs.lemmas.Bool.{cases_lt, cases_eq}
use Rattle.dns_label.specs.Name.{low}
use Rattle.dns_rdata.specs.Fields.{Kind, Field, IsData, IsRow, kind_of, kinds_of, lowered, octets}
use Rattle.dns_rdata.specs.Fields.Kind.{Compressible, Number32}
use Rattle.dns_rdata.specs.Fields.IsData.{typed, unknown}
use Rattle.dns_header.specs.Header.{is_response, opcode_of, rcode_of, question_count, authority_count, additional_count, id_of}
use Rattle.dns_header.specs.Question.{Question}
use Rattle.zone_records.specs.Record.{Record}
use Rattle.zone_records.specs.Typed.{HasLawfulData}
use Rattle.zone_records.specs.Zone.{IsUnder, soa_type, axfr_type}
use Rattle.zone_core.specs.Query.{AxfrQuery}
use Rattle.zone_core.specs.Transfer.{AsksAgain, CountsAnswers, IsQuestionOf}
use Rattle.zone_records.specs.Records.{SameSoa}
use Rattle.zone_receive.specs.Receiving.{IsOpen, IsClosed, KeepsFirstRule, KeepsLastRule}
use Rattle.zone_receive.specs.declared.error.ReceiveError.{ReceiveError}
use Rattle.zone_records.proofs.Decided.{Decided, decided_names, decided_end}
use Rattle.zone_records.proofs.RowFronts.{row_one, are_plain, ArePlain, lowered_decided}
use Rattle.dns_message.proofs.DecidedRecords.{HasSomeQuestion, question_decided, question_one}
use Rattle.zone_records.proofs.SpellableData.{spellable_decided}
use Rattle.zone_receive.proofs.LawfulRecords.{IsLawful, closed_not_open, lawful_record}
use Rattle.zone_receive.proofs.MessageFaults.{record_rules, head_rules}
use Rattle.zone_core.proofs.OrderedRules.{Rules, FirstBroken, AllKept}
use Rattle.zone_core.proofs.OrderedRules.Rules.{no_more, rule}

-- rules, each of them kept or broken
abbrev pub DecidedRules : Rules ReceiveError → Type 0
DecidedRules no_more = ⊤
DecidedRules (rule P error rules) = Decided P × DecidedRules rules

-- the first broken rule, or all are kept
abbrev pub Judged : Rules ReceiveError → Type 0
Judged rules = ((e : ReceiveError) × FirstBroken rules e) ⊎ AllKept rules

judged_more : (P : Type 0) (error : ReceiveError) (rules : Rules ReceiveError) → Decided P → Judged rules → Judged (rule P error rules)
judged_more P error rules (inr broken) rest = inl (error, inl (broken, refl))
judged_more P error rules (inl kept) (inl rest) = inl (rest.0, inr (kept, rest.1))
judged_more P error rules (inl kept) (inr rest) = inr (kept, rest)

pub judged : (rules : Rules ReceiveError) → DecidedRules rules → Judged rules
judged no_more decided = inr tt
judged (rule P error rules) decided = judged_more P error rules decided.0 (judged rules decided.1)

-- the row of an SOA's data
record SoaRow (text : List ℕ) : Type 0 where
  row : List Field
  is : IsRow soa_type row
  whole : text ≡ octets row

soa_row : (text : List ℕ) → IsData soa_type text → SoaRow text
soa_row text (typed row is whole) = record { row = row; is = is; whole = whole }
soa_row text (unknown none short) =
    let no : kinds_of soa_type ≡ None = none in absurd cc

abbrev soa_kinds : List Kind
soa_kinds = Compressible ∷ Compressible ∷ Number32 ∷ Number32 ∷ Number32 ∷ Number32 ∷ Number32 ∷ []

kinds_are : (row : List Field) → IsRow soa_type row → map kind_of row ≡ soa_kinds
kinds_are row is =
    let some : Some soa_kinds ≡ Some (map kind_of row) = is.kinds in
    let same : soa_kinds ≡ map kind_of row = cc some in
    sym same

plain_soa : (row : List Field) → IsRow soa_type row → ArePlain row
plain_soa row is = are_plain row soa_kinds (kinds_are row is) (tt, (tt, (tt, (tt, (tt, (tt, (tt, tt)))))))

soa_row_one : (text : List ℕ) (row other : List Field) → IsRow soa_type row → IsRow soa_type other → text ≡ octets row
    → text ≡ octets other → row ≡ other
soa_row_one text row other is is' whole whole' =
    row_one row other (plain_soa row is) (plain_soa other is') (kinds_are row is ∙ sym (kinds_are other is')) is.each is'.each
    (sym whole ∙ whole')

-- two SOA records are equal up to ASCII case, or are not
abbrev IsSame : Record → Record → List Field → List Field → Type 0
IsSame soa other row other_row =
    (low soa.owner ≡ low other.owner) × (soa.class ≡ other.class) × (soa.ttl ≡ other.ttl) × (map lowered row ≡ map lowered other_row)

parts_decided : {A B C D : Type 0} → Decided A → Decided B → Decided C → Decided D → Decided (A × B × C × D)
parts_decided (inr no_a) b c d = inr (λ all. no_a all.0)
parts_decided (inl a) (inr no_b) c d = inr (λ all. no_b all.1)
parts_decided (inl a) (inl b) (inr no_c) d = inr (λ all. no_c all.2)
parts_decided (inl a) (inl b) (inl c) (inr no_d) = inr (λ all. no_d all.3)
parts_decided (inl a) (inl b) (inl c) (inl d) = inl (a, b, c, d)

same_by_parts : (soa other : Record) (a : SoaRow soa.rdata) (b : SoaRow other.rdata) → Decided (IsSame soa other a.row b.row)
    → Decided (SameSoa soa other)
same_by_parts soa other a b (inl same) = inl (record {
  owner = same.0;
  class = same.1;
  ttl = same.2;
  row = a.row;
  other_row = b.row;
  is = (a.is, a.whole);
  other_is = (b.is, b.whole);
  same = same.3;
})
same_by_parts soa other a b (inr apart) = inr (λ same.
    let first = soa_row_one soa.rdata same.row a.row same.is.0 a.is same.is.1 a.whole in
    let second = soa_row_one other.rdata same.other_row b.row same.other_is.0 b.is same.other_is.1 b.whole in
    apart (same.owner, same.class, same.ttl, ap (map lowered) (sym first) ∙ same.same ∙ ap (map lowered) second))

same_soa_decided : (soa other : Record) → IsData soa_type soa.rdata → IsData soa_type other.rdata → Decided (SameSoa soa other)
same_soa_decided soa other is is' =
    let a = soa_row soa.rdata is in
    let b = soa_row other.rdata is' in
    same_by_parts soa other a b (parts_decided (decided_names (low soa.owner) (low other.owner)) (cases_eq soa.class other.class)
    (cases_eq soa.ttl other.ttl) (lowered_decided a.row b.row (plain_soa a.row a.is) (plain_soa b.row b.is)))

decided_both : {P Q : Type 0} → Decided P → Decided Q → Decided (P × Q)
decided_both (inl p) (inl q) = inl (p, q)
decided_both (inl p) (inr no_q) = inr (λ both. no_q both.1)
decided_both (inr no_p) q = inr (λ both. no_p both.0)

-- the rules of a record
first_decided : (query : AxfrQuery) (front : List Record) (r : Record) → Decided (KeepsFirstRule query front r)
first_decided query [] r = decided_both (cases_eq r.rtype soa_type) (decided_names (low r.owner) (low query.name))
first_decided query (soa ∷ others) r = inl tt

under_decided : (query : AxfrQuery) (r : Record) → Decided (IsUnder query.name r.owner)
under_decided query r = decided_end (low r.owner) (low query.name)

if_decided : {A B : Type 0} → Decided A → (A → Decided B) → Decided (A → B)
if_decided (inr no_a) b = inl (λ a. absurd (no_a a))
if_decided (inl a) b = elim (b a) [ inl holds ↦ inl (λ x. holds) | inr no_b ↦ inr (λ f. no_b (f a)) ]

data_of_type : (rtype : ℕ) (text : List ℕ) → IsData rtype text → rtype ≡ soa_type → IsData soa_type text
data_of_type rtype text is same = let P : ℕ → Type 0 = λ rtype. IsData rtype text in subst P same is

last_decided : (query : AxfrQuery) (front : List Record) (r : Record) → AllByRecursion HasLawfulData front → IsLawful query front → HasLawfulData r
    → Decided (KeepsLastRule front r)
last_decided query [] r data' lawful is = inl tt
last_decided query (soa ∷ others) r data' lawful is =
    let first = lawful_record query [] soa others lawful in
    if_decided (cases_eq r.rtype soa_type)
    (λ same. same_soa_decided soa r (data_of_type soa.rtype soa.rdata data'.0 first.first.0) (data_of_type r.rtype r.rdata is same))

closed_decided : (query : AxfrQuery) (front : List Record) → IsLawful query front → Decided (IsClosed query front → ⊥)
closed_decided query front (inl open_) =
    let P : List Record → Type 0 = λ records. IsOpen query records in
    inl (λ closed. closed_not_open query front [] closed (subst P (sym (append-nil front)) open_))
closed_decided query front (inr closed) = inr (λ none. none closed)

pub record_rules_decided : (query : AxfrQuery) (front : List Record) (r : Record) → AllByRecursion HasLawfulData front → IsLawful query front
    → HasLawfulData r → DecidedRules (record_rules query front r)
record_rules_decided query front r data' lawful is = (
  first_decided query front r,
  (
    cases_eq r.class query.class,
    (under_decided query r, (last_decided query front r data' lawful is, (closed_decided query front lawful, (spellable_decided r.rtype r.rdata is, tt)))),
  ),
)

-- the rules of a message up to its records
bool_decided : (a b : Bool) → Decided (a ≡ b)
bool_decided true true = inl refl
bool_decided false false = inl refl
bool_decided true false = inr (λ e. cc)
bool_decided false true = inr (λ e. cc)

long_decided : (message : List ℕ) → Decided (12 ≤ length message)
long_decided message = elim (cases_lt (length message) 12) [ inl short ↦ inr (λ long. omega arith) | inr long ↦ inl long ]

counts_decided : (message : List ℕ) → Decided (CountsAnswers message)
counts_decided message = elim (cases_lt 1 (question_count message)) [
  | inl many ↦ inr (λ counts. omega (arith, many, counts.questions))
  | inr few ↦ elim (cases_eq (authority_count message) 0) [
    | inr some ↦ inr (λ counts. some counts.authority)
    | inl authority ↦ elim (cases_eq (additional_count message) 0) [
      | inr some ↦ inr (λ counts. some counts.additional)
      | inl additional ↦ inl (record { questions = few; authority = authority; additional = additional })
    ]
  ]
]

of_query_decided : (query : AxfrQuery) (q : Question) → Decided (IsQuestionOf query q)
of_query_decided query q = elim (decided_names (low q.name) (low query.name)) [
  | inr apart ↦ inr (λ is. apart is.name)
  | inl name ↦ elim (cases_eq q.qtype axfr_type) [
    | inr apart ↦ inr (λ is. apart is.qtype)
    | inl qtype ↦ elim (cases_eq q.qclass query.class) [
      | inr apart ↦ inr (λ is. apart is.qclass)
      | inl qclass ↦ inl (record { name = name; qtype = qtype; qclass = qclass })
    ]
  ]
]

abbrev Asks : AxfrQuery → Bool → List ℕ → Type 0
Asks query first message = (place : ℕ) × AsksAgain query first message place

-- if a message counts a question, the question is the one at the place
asked_there : (query : AxfrQuery) (first : Bool) (message : List ℕ) (place : ℕ) → question_count message ≡ 1
    → AsksAgain query first message place → (some : HasSomeQuestion message 12) × IsQuestionOf query some.q
asked_there query first message place one (inl bare) = absurd (omega (arith, one, bare.1))
asked_there query first message place one (inr asks) = (record { q = asks.1; next = place; has = asks.2 }, asks.3)

asked_by_query : (query : AxfrQuery) (first : Bool) (message : List ℕ) → question_count message ≡ 1 → (some : HasSomeQuestion message 12)
    → Decided (IsQuestionOf query some.q) → Decided (Asks query first message)
asked_by_query query first message one some (inl of) = inl (some.next, inr (one, some.q, some.has, of))
asked_by_query query first message one some (inr other) = inr (λ asks.
    let there = asked_there query first message asks.0 one asks.1 in
    let P : Question → Type 0 = λ q. IsQuestionOf query q in
    other (subst P (question_one there.0 some).0 there.1))

asked_by_question : (query : AxfrQuery) (first : Bool) (message : List ℕ) → question_count message ≡ 1 → Decided (HasSomeQuestion message 12)
    → Decided (Asks query first message)
asked_by_question query first message one (inl some) = asked_by_query query first message one some (of_query_decided query some.q)
asked_by_question query first message one (inr none) = inr (λ asks.
    let there = asked_there query first message asks.0 one asks.1 in none there.0)

not_asked : (query : AxfrQuery) (first : Bool) (message : List ℕ) (place : ℕ) → (question_count message ≡ 1 → ⊥)
    → (first ≡ false → question_count message ≡ 0 → ⊥) → AsksAgain query first message place → ⊥
not_asked query first message place not_one not_none (inl bare) = not_none bare.0 bare.1
not_asked query first message place not_one not_none (inr asks) = not_one asks.0

asked_bare : (query : AxfrQuery) (first : Bool) (message : List ℕ) → (question_count message ≡ 1 → ⊥) → Decided (first ≡ false)
    → Decided (question_count message ≡ 0) → Decided (Asks query first message)
asked_bare query first message not_one (inl later) (inl none) = inl (12, inl (later, none, refl))
asked_bare query first message not_one (inr is_first) none =
    inr (λ asks. not_asked query first message asks.0 not_one (λ later zero. is_first later) asks.1)
asked_bare query first message not_one (inl later) (inr some) =
    inr (λ asks. not_asked query first message asks.0 not_one (λ later zero. some zero) asks.1)

asked_decided : (query : AxfrQuery) (first : Bool) (message : List ℕ) → Decided (Asks query first message)
asked_decided query first message = elim (cases_eq (question_count message) 1) [
  | inl one ↦ asked_by_question query first message one (question_decided message 12)
  | inr not_one ↦ asked_bare query first message not_one (bool_decided first false) (cases_eq (question_count message) 0)
]

pub head_rules_decided : (query : AxfrQuery) (first : Bool) (message : List ℕ) → DecidedRules (head_rules query first message)
head_rules_decided query first message = (
  long_decided message,
  (
    cases_eq (id_of message) query.id,
    (
      bool_decided (is_response message) true,
      (
        cases_eq (opcode_of message) 0,
        (cases_eq (rcode_of message) 0, (counts_decided message, (asked_decided query first message, tt))),
      ),
    ),
  ),
)
