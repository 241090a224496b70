-- How an answer begins: its header, and its sections.
use Rattle.std.proofs.Common.{◌≡◌, ◌∙◌, ℕ, true, List, [], ◌∷◌, length, refl, sym, ap, subst, arith}
use Rattle.std.specs.Prelude.{Result, Ok, Err, IfErr, map}
use Rattle.std.specs.Result.{IsErrAnd}
use Rattle.dns_name.specs.Spelling.{Spelling}
use Rattle.dns_name.specs.Page.{Page, Parts}
use Rattle.dns_header.specs.HeaderFields.{HeaderFields, fields_of}
use Rattle.dns_header.specs.Question.{Question, question_parts}
use Rattle.dns_sections.specs.Questions.{first_question}
use Rattle.dns_builder.specs.Answering.{AnswersHeader, answering, BeginsAnswer, RefusesQuestion, BeginsFailure}
use Rattle.dns_builder.specs.Asked.{AreReadable, HoldsQuestions, AddsQuestions, RefusesNext}
use Rattle.dns_builder.specs.Built.{Built, Draft, IsDraftOf}
use Rattle.dns_builder.specs.Steps.{going_to, sections_to, with_header, KeepsLimits}
use Rattle.dns_sections.specs.declared.error.PushError.{PushError}
use Rattle.dns_builder.proofs.DraftPages.{length-begun}

-- if no section was started, the questions start empty
first-begun : (sections : List (List Parts)) → length sections ≡ 0 → sections_to 1 sections ≡ [] ∷ []
first-begun [] none = refl
first-begun (items ∷ sections) none = absurd (omega arith)

-- the header that is set precedes no question
pub begins : (s : Spelling) (query : List ℕ) (rcode : ℕ) (built : Built) (old new : Draft) (header : List ℕ) → IsDraftOf s built old
    → length old.starts ≡ 0 → AnswersHeader query rcode built.header header → IsDraftOf s (with_header (going_to 1 built) header) new
    → (header : List ℕ) × AnswersHeader query rcode built.header header × IsDraftOf s (record { header = header; sections = [] ∷ [] }) new
begins s query rcode built old new header is none says holds = (
  header,
  says,
  subst (λ (l : List (List Parts)). IsDraftOf s (record { header = header; sections = l }) new)
      (first-begun built.sections (sym (length-begun is) ∙ none)) holds,
)

-- a query's header is that of its message
pub of-message : (query message : List ℕ) (rcode : ℕ) (old new : List ℕ) → fields_of query ≡ fields_of message
    → AnswersHeader query rcode old new → AnswersHeader message rcode old new
of-message query message rcode old new same says =
    says ∙ ap (λ (f : HeaderFields). record (fields_of old) { id = f.id; qr = true; opcode = f.opcode; rd = f.rd; rcode = rcode }) same

-- another response code
pub recoded : (query : List ℕ) (rcode code : ℕ) (old mid new : List ℕ) → AnswersHeader query rcode old mid
    → fields_of new ≡ record (fields_of mid) { rcode = code } → AnswersHeader query code old new
recoded query rcode code old mid new says sets = sets ∙ ap (λ (f : HeaderFields). record f { rcode = code }) says

-- an error that is returned
pub handed-on : {A E : Type 0} (result : Result A E) (error : E) (Why : E → Type 0) → IsErrAnd result (λ e. e ≡ error) → Why error → IfErr result Why
handed-on (Ok value) error Why is why = tt
handed-on (Err other) error Why is why = subst Why (sym is) why

-- limits that stay in two steps
pub limits-on : (a b c : Draft) → KeepsLimits a b → KeepsLimits b c → KeepsLimits a c
limits-on a b c first next = record { limit = next.limit ∙ first.limit; bound = next.bound ∙ first.bound }

-- the answer's header is set, and questions follow it
module _ (s : Spelling) (query message : List ℕ) (rcode : ℕ) (built : Built) (begun pushed : Draft)
    (same : fields_of query ≡ fields_of message)
    (begin : (header : List ℕ) × AnswersHeader query rcode built.header header × IsDraftOf s (record { header = header; sections = [] ∷ [] }) begun)
    (questions : List Question) (adds : AddsQuestions s begun questions pushed) where
  says : AnswersHeader message rcode built.header begin.0
  says = of-message query message rcode built.header begin.0 same begin.1

  asks : HoldsQuestions s begin.0 [] questions pushed
  asks = adds begin.0 [] begin.2

  -- the header, and the questions after it
  abbrev message_of : List ℕ → Built
  message_of header = record { header = header; sections = map question_parts questions ∷ [] }

  -- all that parse were pushed, and the answer section is started
  pub answered : AreReadable (first_question message) questions → (new : Draft)
      → ((b : Built) → IsDraftOf s b pushed → IsDraftOf s (going_to 2 b) new) → KeepsLimits pushed new → BeginsAnswer s message rcode built new
  answered readable new goes limits =
      let holds : IsDraftOf s (answering begin.0 questions) new = goes (message_of begin.0) asks.holds in
      let same_page : new.page ≡ pushed.page = holds.page ∙ sym asks.holds.page in
      record {
        header = begin.0;
        questions = questions;
        says = says;
        readable = readable;
        holds = holds;
        short = λ some. omega (arith, asks.short some, limits.limit, ap (λ (p : Page). length p.octets) same_page);
      }

  -- the push of the next one failed
  pub refused : (old : Draft) → KeepsLimits old pushed → (error : PushError) → RefusesNext s (first_question message) questions pushed error
      → RefusesQuestion s message rcode built old questions error
  refused old limits error next = record {
    header = begin.0;
    so_far = pushed;
    says = says;
    holds = asks;
    limits = limits;
    refused = next;
  }

  -- the response code is then set to SERVFAIL, and the answer section is started
  pub failed : (old : Draft) → KeepsLimits old pushed → (error : PushError) → RefusesNext s (first_question message) questions pushed error
      → (was header : List ℕ) → ((b : Built) → IsDraftOf s b pushed → was ≡ b.header)
      → fields_of header ≡ record (fields_of was) { rcode = 2 }
      → (headed : Draft) → ((b : Built) → IsDraftOf s b pushed → IsDraftOf s (with_header b header) headed)
      → (new : Draft) → ((b : Built) → IsDraftOf s b headed → IsDraftOf s (going_to 2 b) new)
      → BeginsFailure s message rcode built old new
  failed old limits error next was header is_was sets headed heads new goes =
      let stood : was ≡ begin.0 = is_was (message_of begin.0) asks.holds in
      record {
        header = header;
        questions = questions;
        error = error;
        refused = refused old limits error next;
        says = recoded message rcode 2 built.header begin.0 header says
            (sets ∙ ap (λ (l : List ℕ). record (fields_of l) { rcode = 2 }) stood);
        holds = goes (message_of header) (heads (message_of begin.0) asks.holds);
      }
