-- Questions as the items of a section (RFC 1035 4.1.2).
use Rattle.std.specs.Prelude.{◌⊎◌, ℕ, List, Ok}
use Rattle.dns_label.specs.Spelled.{DecodesName}
use Rattle.dns_wire.specs.Cut.{IsCut}
use Rattle.dns_wire.specs.Skip.{Skips}
use Rattle.dns_header.specs.Header.{question_count}
use Rattle.dns_header.specs.Question.{Question, ReadsQuestion, EndsInQuestion}
use Rattle.dns_sections.specs.Cursor.{Cursor}

-- the cursor at a message's first question, after the header's twelve octets
abbrev pub first_question : List ℕ → Cursor
first_question message = record { message = message; place = 12; left = Ok (question_count message) }

-- no question is at the place
abbrev pub NoQuestion : List ℕ → ℕ → Type 0
NoQuestion message place = (question : Question) (next : ℕ) → ReadsQuestion message place question next → ⊥

-- the message ends too early for a question: in its name or after it
abbrev pub QuestionIsCut : List ℕ → ℕ → Type 0
QuestionIsCut message place =
    IsCut message 255 254 place ⊎ ((name : List (List ℕ)) × EndsInQuestion message (DecodesName message place name))

-- the same if no pointer is followed
abbrev pub QuestionSkipIsCut : List ℕ → ℕ → Type 0
QuestionSkipIsCut message place = IsCut message 0 254 place ⊎ EndsInQuestion message (Skips message 254 place)
