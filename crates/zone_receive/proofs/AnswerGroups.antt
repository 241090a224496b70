-- Answers with their groups of records, for a list of messages that continues another, and for one more message.
use Rattle.std.proofs.Common.{◌≡◌, ℕ, Bool, true, false, List, [], ◌∷◌, ◌++◌, refl, sym, ap, ◌∙◌, subst, append-nil}
use Rattle.std.proofs.lemmas.List.Concat.{flat_map-append}
use Rattle.zone_records.specs.Record.{Record}
use Rattle.zone_core.specs.Query.{AxfrQuery}
use Rattle.zone_core.specs.Cutting.{joined}
use Rattle.zone_core.specs.Transfer.{IsAnswer, AreAnswers}
use Rattle.zone_receive.specs.Receiving.{is_first}

-- whether the message after these is the first
abbrev pub first_behind : Bool → List (List ℕ) → Bool
first_behind first [] = first
first_behind first (message ∷ messages) = false

pub none_is_first : (messages : List (List ℕ)) → first_behind false messages ≡ false
none_is_first [] = refl
none_is_first (message ∷ messages) = refl

pub first_of_stream : (messages : List (List ℕ)) → first_behind true messages ≡ is_first messages
first_of_stream [] = refl
first_of_stream (message ∷ messages) = refl

-- The groups of messages that continue others: those of the others, that of the next message, and those after it.
pub record GroupsPast (query : AxfrQuery) (first : Bool) (others : List (List ℕ)) (next : List ℕ)
    (behind : List (List ℕ)) (groups : List (List Record)) : Type 0 where
  pub before : List (List Record)
  pub group : List Record
  pub after : List (List Record)
  pub are : groups ≡ before ++ group ∷ after
  pub answers : AreAnswers query first others before
  pub answer : IsAnswer query (first_behind first others) next group
  pub rest : AreAnswers query false behind after

pub groups_past : (query : AxfrQuery) (first : Bool) (others : List (List ℕ)) (next : List ℕ) (behind : List (List ℕ))
    (groups : List (List Record)) → AreAnswers query first (others ++ next ∷ behind) groups
    → GroupsPast query first others next behind groups
groups_past query first [] next behind [] answers = absurd answers
groups_past query first [] next behind (group ∷ groups) answers = record {
  before = [];
  group = group;
  after = groups;
  are = refl;
  answers = tt;
  answer = answers.0;
  rest = answers.1;
}
groups_past query first (message ∷ others) next behind [] answers = absurd answers
groups_past query first (message ∷ others) next behind (group ∷ groups) answers =
    let there = groups_past query false others next behind groups answers.1 in
    let P : Bool → Type 0 = λ first. IsAnswer query first next there.group in
    record {
      before = group ∷ there.before;
      group = there.group;
      after = there.after;
      are = ap (λ l. group ∷ l) there.are;
      answers = (answers.0, there.answers);
      answer = subst P (none_is_first others) there.answer;
      rest = there.rest;
    }

-- one more answer
pub answers_push : (query : AxfrQuery) (first : Bool) (messages : List (List ℕ)) (groups : List (List Record))
    (message : List ℕ) (group : List Record) → AreAnswers query first messages groups
    → IsAnswer query (first_behind first messages) message group
    → AreAnswers query first (messages ++ message ∷ []) (groups ++ group ∷ [])
answers_push query first [] [] message group answers answer = (answer, tt)
answers_push query first [] (other ∷ groups) message group answers answer = absurd answers
answers_push query first (other ∷ messages) [] message group answers answer = absurd answers
answers_push query first (other ∷ messages) (others ∷ groups) message group answers answer =
    let P : Bool → Type 0 = λ first. IsAnswer query first message group in
    (answers.0, answers_push query false messages groups message group answers.1 (subst P (sym (none_is_first messages)) answer))

-- the records of groups that continue others
pub joined_past : (before : List (List Record)) (group : List Record) (after : List (List Record))
    → joined (before ++ group ∷ after) ≡ joined before ++ (group ++ joined after)
joined_past before group after = flat_map-append (λ g. g) before (group ∷ after)

pub joined_push : (groups : List (List Record)) (group : List Record) → joined (groups ++ group ∷ []) ≡ joined groups ++ group
joined_push groups group = joined_past groups group [] ∙ ap (λ l. joined groups ++ l) (append-nil group)
