-- How an answer to a query begins (RFC 1035 4.1.1 and 4.1.2).
use Rattle.std.specs.Prelude.{◌≡◌, ◌<◌, ℕ, true, List, [], ◌∷◌, length, map}
use Rattle.dns_name.specs.Spelling.{Spelling}
use Rattle.dns_header.specs.Header.{id_of, opcode_of, recursion_desired}
use Rattle.dns_header.specs.HeaderFields.{fields_of}
use Rattle.dns_header.specs.Question.{Question, question_parts}
use Rattle.dns_sections.specs.Questions.{first_question}
use Rattle.dns_builder.specs.Asked.{AreReadable, HoldsQuestions, RefusesNext}
use Rattle.dns_builder.specs.Built.{Built, Draft, IsDraftOf}
use Rattle.dns_builder.specs.Steps.{KeepsLimits}
use Rattle.dns_sections.specs.declared.error.PushError.{PushError}

-- The new header is that of an answer: it has QR set, the query's ID, opcode and RD, and this response code. Its other
-- bits are those of the old one.
abbrev pub AnswersHeader : List ℕ → ℕ → List ℕ → List ℕ → Type 0
AnswersHeader query rcode old new =
    fields_of new ≡ record (fields_of old) {
      id = id_of query;
      qr = true;
      opcode = opcode_of query;
      rd = recursion_desired query;
      rcode = rcode;
    }

-- a message of questions, in which the answer section was started
abbrev pub answering : List ℕ → List Question → Built
answering header questions = record { header = header; sections = map question_parts questions ∷ [] ∷ [] }

-- A builder holds the beginning of an answer: its header, the questions of the query that parse, and no answer yet. If
-- there is a question, the message is shorter than its limit.
pub record BeginsAnswer (s : Spelling) (query : List ℕ) (rcode : ℕ) (built : Built) (new : Draft) : Type 0 where
  pub header : List ℕ
  pub questions : List Question
  pub says : AnswersHeader query rcode built.header header
  pub readable : AreReadable (first_question query) questions
  pub holds : IsDraftOf s (answering header questions) new
  pub short : 0 < length questions → length new.page.octets < new.limit

-- The push of a question of the query fails with an error, after those before it were pushed after the answer's header.
pub record RefusesQuestion (s : Spelling) (query : List ℕ) (rcode : ℕ) (built : Built) (old : Draft) (questions : List Question)
    (error : PushError) : Type 0 where
  pub header : List ℕ
  pub so_far : Draft
  pub says : AnswersHeader query rcode built.header header
  pub holds : HoldsQuestions s header [] questions so_far
  pub limits : KeepsLimits old so_far
  pub refused : RefusesNext s (first_question query) questions so_far error

-- A builder holds the beginning of an answer that failed: the questions before the one whose push failed, and a header
-- with the response code SERVFAIL (2).
pub record BeginsFailure (s : Spelling) (query : List ℕ) (rcode : ℕ) (built : Built) (old new : Draft) : Type 0 where
  pub header : List ℕ
  pub questions : List Question
  pub error : PushError
  pub refused : RefusesQuestion s query rcode built old questions error
  pub says : AnswersHeader query 2 built.header header
  pub holds : IsDraftOf s (answering header questions) new
