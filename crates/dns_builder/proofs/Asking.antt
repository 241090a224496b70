-- The questions of a query, pushed one after another.
use Rattle.std.proofs.Common.{◌≡◌, ◌∙◌, ℕ, List, [], ◌∷◌, ◌++◌, Some, Ok, Err, length, sym, ap, subst, arith, length-append, append_assoc}
use Rattle.std.specs.Prelude.{Result, map}
use Rattle.std.proofs.lemmas.List.{append-nil, map-append}
use Rattle.dns_octets.specs.declared.error.ParseError.{ParseError}
use Rattle.dns_name.specs.Spelling.{Spelling}
use Rattle.dns_name.specs.Page.{Page, Parts, write}
use Rattle.dns_name.specs.RecordData.{page_of}
use Rattle.dns_header.specs.Question.{Question, question_parts}
use Rattle.dns_sections.specs.Cursor.{Cursor, IsSpent}
use Rattle.dns_sections.specs.Given.{GivesQuestion, seen}
use Rattle.dns_builder.specs.Asked.{GivesQuestions, AreReadable, AddsQuestions, RefusesNext}
use Rattle.dns_builder.specs.Built.{Built, Draft, IsDraftOf, counts_octets, header_octets, built_page, write_all}
use Rattle.dns_builder.specs.Steps.{with_item, length_with, IsTakenBy, IsRefusedBy, KeepsLimits}
use Rattle.dns_sections.specs.declared.error.PushError.{PushError}
use Rattle.dns_builder.proofs.SameBehind.{SameBehind, same_length, same_all, same_none}
use Rattle.dns_builder.proofs.Sections.{items_of, write_all-append}

-- one question more is returned
gives-more : {old mid new : Cursor} {questions : List Question} {question : Question} → GivesQuestions old questions mid
    → GivesQuestion mid (Some (Ok question)) new → GivesQuestions old (questions ++ question ∷ []) new
gives-more GivesQuestions.none gives = GivesQuestions.more gives GivesQuestions.none
gives-more (GivesQuestions.more first others) gives = GivesQuestions.more first (gives-more others gives)

-- a message with one item more in its only section is as long as the item makes it
length_pushed : {s : Spelling} {old new : Draft} (header : List ℕ) (items : List Parts) (item : Parts)
    → IsDraftOf s (record { header = header; sections = items ∷ [] }) old
    → IsDraftOf s (record { header = header; sections = (items ++ item ∷ []) ∷ [] }) new
    → length new.page.octets ≡ length_with s old item
length_pushed {s} {old} {new} header items item was is =
    ap (λ (p : Page). length p.octets) is.page ∙ same_length long same ∙ ap (λ (p : Page). length p.octets) (sym written)
  where
    before : Built
    before = record { header = header; sections = items ∷ [] }

    after : Built
    after = record { header = header; sections = (items ++ item ∷ []) ∷ [] }

    long : length (header_octets before) ≡ length (header_octets after)
    long = omega (arith, length-append header (counts_octets before.sections), length-append header (counts_octets after.sections))

    same : SameBehind (header_octets before) (header_octets after) (write_all s (page_of (header_octets before) []) (items_of after.sections))
        (built_page s after)
    same = same_all s (items_of after.sections) long (same_none (header_octets before) (header_octets after))

    same_items : items_of before.sections ++ item ∷ [] ≡ items_of after.sections
    same_items = simp append-nil

    written : write s old.page item ≡ write_all s (page_of (header_octets before) []) (items_of after.sections)
    written = ap (λ (p : Page). write s p item) was.page
        ∙ sym (write_all-append s (page_of (header_octets before) []) (items_of before.sections) (item ∷ []))
        ∙ ap (write_all s (page_of (header_octets before) [])) same_items

-- no question is added
adds-none : (s : Spelling) (draft : Draft) → AddsQuestions s draft [] draft
adds-none s draft header items is = record {
  holds = subst (λ (l : List Parts). IsDraftOf s (record { header = header; sections = l ∷ [] }) draft) (sym (append-nil items)) is;
  short = λ some. absurd (omega arith);
}

-- one question more is added
adds-more : (s : Spelling) (old mid new : Draft) (questions : List Question) (question : Question) → AddsQuestions s old questions mid
    → ((built : Built) → IsDraftOf s built mid → IsDraftOf s (with_item built (question_parts question)) new)
    → IsTakenBy s 0 mid (question_parts question) ⊥ → KeepsLimits mid new
    → AddsQuestions s old (questions ++ question ∷ []) new
adds-more s old mid new questions question adds pushed taken limits header items is =
    let had = adds header items is in
    let has = pushed (record { header = header; sections = (items ++ map question_parts questions) ∷ [] }) had.holds in
    record {
      holds = subst (λ (l : List Parts). IsDraftOf s (record { header = header; sections = l ∷ [] }) new) same has;
      short = λ some. omega (arith, taken.short, limits.limit, length_pushed header (items ++ map question_parts questions) (question_parts question) had.holds has);
    }
  where
    same : (items ++ map question_parts questions) ++ question_parts question ∷ [] ≡ items ++ map question_parts (questions ++ question ∷ [])
    same = append_assoc items (map question_parts questions) (question_parts question ∷ [])
        ∙ ap (λ l. items ++ l) (sym (map-append question_parts questions (question ∷ [])))

-- the questions so far are returned, and added
pub record HasAdded (s : Spelling) (cursor now : Cursor) (old new : Draft) : Type 0 where
  pub questions : List Question
  pub gives : GivesQuestions cursor questions now
  pub adds : AddsQuestions s old questions new

pub has-none : (s : Spelling) (cursor now : Cursor) (draft : Draft) → now ≡ cursor → HasAdded s cursor now draft draft
has-none s cursor now draft same = record {
  questions = [];
  gives = subst (λ (c : Cursor). GivesQuestions cursor [] c) (sym same) (GivesQuestions.none {cursor = cursor});
  adds = adds-none s draft;
}

-- an item that a cursor returns, as contracts see it
module _ {A : Type 0} (see : A → Question) (item : Result A ParseError) (s : Spelling) (cursor now next : Cursor) (old mid : Draft)
    (had : HasAdded s cursor now old mid) (gives : GivesQuestion now (seen see (Some item)) next) where
  given : (question : A) → item ≡ Ok question → GivesQuestion now (Some (Ok (see question))) next
  given question is = subst (λ (i : Result A ParseError). GivesQuestion now (seen see (Some i)) next) is gives

  pub has-more : (question : A) → item ≡ Ok question → (new : Draft)
      → ((built : Built) → IsDraftOf s built mid → IsDraftOf s (with_item built (question_parts (see question))) new)
      → IsTakenBy s 0 mid (question_parts (see question)) ⊥ → KeepsLimits mid new → HasAdded s cursor next old new
  has-more question is new pushed taken limits = record {
    questions = had.questions ++ see question ∷ [];
    gives = gives-more had.gives (given question is);
    adds = adds-more s old mid new had.questions (see question) had.adds pushed taken limits;
  }

  pub has-refused : (question : A) → item ≡ Ok question → (new : Draft) → new ≡ mid → (error : PushError)
      → IsRefusedBy s 0 mid (question_parts (see question)) ⊥ error
      → (questions : List Question) × RefusesNext s cursor questions new error × AddsQuestions s old questions new
  has-refused question is new same error refused =
      subst (λ (d : Draft). (questions : List Question) × RefusesNext s cursor questions d error × AddsQuestions s old questions d) (sym same) (
        had.questions,
        record {
          before = now;
          behind = next;
          question = see question;
          first = had.gives;
          next = given question is;
          refused = refused;
        },
        had.adds,
      )

  pub has-broken : (error : ParseError) → item ≡ Err error
      → (questions : List Question) × AreReadable cursor questions × AddsQuestions s old questions mid
  has-broken error is = (
    had.questions,
    AreReadable.broken had.gives (subst (λ (i : Result A ParseError). GivesQuestion now (seen see (Some i)) next) is gives),
    had.adds,
  )

-- no question is left
pub has-all : (s : Spelling) (cursor now : Cursor) (old new : Draft) → HasAdded s cursor now old new → IsSpent now
    → (questions : List Question) × AreReadable cursor questions × AddsQuestions s old questions new
has-all s cursor now old new had spent = (had.questions, AreReadable.all had.gives spent, had.adds)
