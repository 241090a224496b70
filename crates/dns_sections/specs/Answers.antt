-- When a message answers a query (RFC 1035 4.1.1 and 4.1.2).
use Rattle.std.specs.Prelude.{◌≡◌, ℕ, true, List, [], ◌∷◌, Some, Ok}
use Rattle.std.specs.Cmp.Lexicographic.{pointwise}
use Rattle.dns_header.specs.Header.{id_of, is_response, question_count}
use Rattle.dns_header.specs.Question.{Question}
use Rattle.dns_header.specs.QuestionOrder.{questions_eq}
use Rattle.dns_sections.specs.Cursor.{Cursor}
use Rattle.dns_sections.specs.Given.{GivesQuestion}
use Rattle.dns_sections.specs.Questions.{first_question}

-- The questions that a cursor has left are these: each of them parses.
pub data HasQuestions : Cursor → List Question → Type 0 where
  none : {cursor : Cursor} → cursor.left ≡ Ok 0 → HasQuestions cursor []
  more : {old new : Cursor} {question : Question} {others : List Question} → GivesQuestion old (Some (Ok question)) new
      → HasQuestions new others → HasQuestions old (question ∷ others)

-- Two cursors have the same questions left, in order, with names up to ASCII case (RFC 4343).
pub record AskTheSame (one other : Cursor) : Type 0 where
  pub questions : List Question
  pub others : List Question
  pub of_one : HasQuestions one questions
  pub of_other : HasQuestions other others
  pub same : pointwise questions_eq questions others ≡ true

-- The message is a response, has the query's ID, and asks as many questions, which are the same.
pub record IsAnswerTo (message query : List ℕ) : Type 0 where
  pub response : is_response message ≡ true
  pub id : id_of message ≡ id_of query
  pub count : question_count message ≡ question_count query
  pub questions : AskTheSame (first_question message) (first_question query)
