-- What a message asks (RFC 1035 4.1.2).
use Rattle.std.specs.Prelude.{◌≡◌, ◌<◌, ℕ, List}
use Rattle.dns_octets.specs.declared.error.ParseError.{ParseError}
use Rattle.dns_octets.specs.declared.error.ParseError.TheVariants.{ShortInput}
use Rattle.dns_header.specs.Header.{question_count}
use Rattle.dns_header.specs.Question.{Question, ReadsQuestion}
use Rattle.dns_sections.specs.Cursor.{IsRefusal}
use Rattle.dns_sections.specs.Questions.{NoQuestion, QuestionIsCut}

-- the message's first question, after the header's twelve octets
pub record IsFirstQuestion (message : List ℕ) (question : Question) : Type 0 where
  pub some : 0 < question_count message
  pub next : ℕ
  pub reads : ReadsQuestion message 12 question next

-- The message has no sole question, with this error: it counts none or several, or the one that it counts does not
-- parse. In that last case the error is `ShortInput` exactly if the message ends too early for it.
pub data HasNoSoleQuestion (message : List ℕ) (error : ParseError) : Type 0 where
  other_count : (question_count message ≡ 1 → ⊥) → (error ≡ ShortInput → ⊥) → HasNoSoleQuestion message error
  unread : question_count message ≡ 1 → IsRefusal (NoQuestion message 12) (QuestionIsCut message 12) error → HasNoSoleQuestion message error
