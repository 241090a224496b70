-- Octets are one query, or first break one rule.
use Rattle.std.proofs.Common.{◌≡◌, ◌≢◌, ◌≤◌, ℕ, false, List, length, refl, sym, ◌∙◌, subst, arith, inl, inr}
use Rattle.dns_header.specs.Header.{is_response, opcode_of}
use Rattle.dns_header.specs.Question.{Question, ReadsQuestion}
use Rattle.dns_message.proofs.DecidedRecords.{question_one as some_question_one}
use Rattle.zone_core.specs.Query.{AxfrQuery, AsksOne, IsQuery, IsQueryFault, question_of}
use Rattle.zone_records.specs.Zone.{any_class, axfr_type}
use Rattle.zone_core.specs.declared.query_error.QueryError.{QueryError}
use Rattle.zone_core.specs.declared.query_error.QueryError.TheVariants as query_error
use Rattle.zone_core.proofs.OrderedRules.{Rules, FirstBroken, AllKept, first_one, broken_not_kept}
use Rattle.zone_core.proofs.OrderedRules.Rules.{no_more, rule}

-- one question is at a place, with one place after it
pub question_one : {message : List ℕ} {place next end : ℕ} {q other : Question} → ReadsQuestion message place q next
    → ReadsQuestion message place other end → (q ≡ other) × (next ≡ end)
question_one {message} {place} {next} {end} {q} {other} reads reads' =
    some_question_one {message = message} {place = place} (record { q = q; next = next; has = reads }) (record { q = other; next = end; has = reads' })

-- a message has a question for which this holds
abbrev AsksWith : List ℕ → (Question → ℕ → Type 0) → Type 0
AsksWith message P = (q : Question) × (next : ℕ) × ReadsQuestion message 12 q next × P q next

asks_not : {message : List ℕ} {q : Question} {next : ℕ} (P : Question → ℕ → Type 0) → ReadsQuestion message 12 q next
    → (P q next → ⊥) → AsksWith message P → ⊥
asks_not {message} {q} {next} P reads not asks =
    let one = question_one asks.2 reads in
    not (subst (λ (end : ℕ). P q end) one.1 (subst (λ (other : Question). P other asks.1) one.0 asks.3))

abbrev OfAny : Question → ℕ → Type 0
OfAny q next = Unit {0}

abbrev OfAxfr : Question → ℕ → Type 0
OfAxfr q next = q.qtype ≡ axfr_type

abbrev OfOneClass : Question → ℕ → Type 0
OfOneClass q next = q.qclass ≢ any_class

-- the rules of a query, in their order
abbrev query_rules : List ℕ → Rules QueryError
query_rules message =
    rule (12 ≤ length message) query_error.Short
    (rule (is_response message ≡ false) query_error.Response
    (rule (opcode_of message ≡ 0) query_error.Opcode
    (rule (AsksOne message) query_error.Counts
    (rule (AsksWith message OfAny) query_error.Malformed
    (rule (AsksWith message OfAxfr) query_error.NotAxfr
    (rule (AsksWith message OfOneClass) query_error.ClassAny
    (rule (AsksWith message (λ q next. next ≡ length message)) query_error.Trailing no_more)))))))

first_broken : (message : List ℕ) (e : QueryError) → IsQueryFault message e → FirstBroken (query_rules message) e
first_broken message query_error.Short fault = inl ((λ long. omega (arith, fault, long)), refl)
first_broken message query_error.Response fault = inr (fault.0, inl ((λ no. cc), refl))
first_broken message query_error.Opcode fault = inr (fault.0, inr (fault.1, inl (fault.2, refl)))
first_broken message query_error.Counts fault = inr (fault.0, inr (fault.1, inr (fault.2, inl (fault.3, refl))))
first_broken message query_error.Malformed fault =
    let kept = fault.0 in
    inr (kept.long, inr (kept.query, inr (kept.opcode, inr (kept.counts, inl ((λ asks. fault.1 asks.0 asks.1 asks.2), refl)))))
first_broken message query_error.NotAxfr fault =
    let kept = fault.0 in
    let asks : AsksWith message OfAny = (fault.1, fault.2, fault.3, tt) in
    inr (
      kept.long,
      inr (
        kept.query,
        inr (
          kept.opcode,
          inr (
            kept.counts,
            inr (
              asks,
              inl (asks_not OfAxfr fault.3 fault.4, refl),
            ),
          ),
        ),
      ),
    )
first_broken message query_error.ClassAny fault =
    let kept = fault.0 in
    let asks : AsksWith message OfAny = (fault.1, fault.2, fault.3, tt) in
    let axfr : AsksWith message OfAxfr = (fault.1, fault.2, fault.3, fault.4) in
    inr (
      kept.long,
      inr (
        kept.query,
        inr (
          kept.opcode,
          inr (
            kept.counts,
            inr (
              asks,
              inr (
                axfr,
                inl (asks_not OfOneClass fault.3 (λ not. not fault.5), refl),
              ),
            ),
          ),
        ),
      ),
    )
first_broken message query_error.Trailing fault =
    let kept = fault.0 in
    let asks : AsksWith message OfAny = (fault.1, fault.2, fault.3, tt) in
    let axfr : AsksWith message OfAxfr = (fault.1, fault.2, fault.3, fault.4) in
    let one_class : AsksWith message OfOneClass = (fault.1, fault.2, fault.3, fault.5) in
    inr (
      kept.long,
      inr (
        kept.query,
        inr (
          kept.opcode,
          inr (
            kept.counts,
            inr (
              asks,
              inr (
                axfr,
                inr (
                  one_class,
                  inl (asks_not (λ q next. next ≡ length message) fault.3 fault.6, refl),
                ),
              ),
            ),
          ),
        ),
      ),
    )

all_kept : (message : List ℕ) (query : AxfrQuery) → IsQuery message query → AllKept (query_rules message)
all_kept message query is =
    let kept = is.header in
    let q = question_of query in
    let next = length message in
    let asks : AsksWith message OfAny = (q, next, is.question, tt) in
    let axfr : AsksWith message OfAxfr = (q, next, is.question, refl) in
    let one_class : AsksWith message OfOneClass = (q, next, is.question, is.class_known) in
    let whole : AsksWith message (λ q next. next ≡ length message) = (q, next, is.question, refl) in
    (kept.long, (kept.query, (kept.opcode, (kept.counts, (asks, (axfr, (one_class, (whole, tt))))))))

-- octets are one query
pub query_one : (message : List ℕ) (query other : AxfrQuery) → IsQuery message query → IsQuery message other → query ≡ other
query_one message query other is is' =
    let question = (question_one is.question is'.question).0 in
    let id = is.id ∙ sym is'.id in
    let recursion = is.recursion ∙ sym is'.recursion in
    (λ i. record { id = id i; recursion = recursion i; name = (question i).name; class = (question i).qclass })

pub query_no_fault : (message : List ℕ) (query : AxfrQuery) (e : QueryError) → IsQuery message query → IsQueryFault message e → ⊥
query_no_fault message query e is fault =
    broken_not_kept (query_rules message) e (first_broken message e fault) (all_kept message query is)

pub query_fault_one : (message : List ℕ) (e d : QueryError) → IsQueryFault message e → IsQueryFault message d → e ≡ d
query_fault_one message e d fault fault' =
    first_one (query_rules message) e d (first_broken message e fault) (first_broken message d fault')
