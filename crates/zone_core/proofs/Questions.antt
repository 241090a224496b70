-- The questions of messages: when there is none, and which one a message has.
use Rattle.std.proofs.Common.{◌≡◌, ℕ, Bool, List, sym, subst, arith, inl, inr}
use Rattle.dns_header.specs.Header.{question_count}
use Rattle.dns_header.specs.Question.{Question, ReadsQuestion}
use Rattle.zone_core.specs.Query.{AxfrQuery}
use Rattle.zone_core.specs.Transfer.{AsksAgain, HasAnswerHeader, IsQuestionOf}
use Rattle.zone_core.proofs.OneQuery.{question_one}

-- the question of a message
pub asks_once : (query : AxfrQuery) (first : Bool) (message : List ℕ) (place : ℕ) (q : Question) → HasAnswerHeader query message
    → (question_count message ≡ 0 → ⊥) → ReadsQuestion message 12 q place → IsQuestionOf query q
    → AsksAgain query first message place
asks_once query first message place q header some reads is = inr (omega (arith, header.counts.questions, some), q, reads, is)

pub asks_not : (query : AxfrQuery) (first : Bool) (message : List ℕ) → (question_count message ≡ 0 → ⊥)
    → ((q : Question) (next : ℕ) → ReadsQuestion message 12 q next → IsQuestionOf query q → ⊥)
    → (place : ℕ) → AsksAgain query first message place → ⊥
asks_not query first message some none place (inl bare) = some bare.1
asks_not query first message some none place (inr asks) = none asks.1 place asks.2 asks.3

pub asks_other : (query : AxfrQuery) (first : Bool) (message : List ℕ) (end : ℕ) (q : Question) → (question_count message ≡ 0 → ⊥)
    → ReadsQuestion message 12 q end → (IsQuestionOf query q → ⊥) → (place : ℕ) → AsksAgain query first message place → ⊥
asks_other query first message end q some reads not_asked =
    asks_not query first message some (λ other next reads' is. not_asked (subst (IsQuestionOf query) (sym (question_one reads reads').0) is))
