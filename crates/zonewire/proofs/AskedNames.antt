-- A transfer answers each query for the same name up to ASCII case.
use Rattle.std.proofs.Common.{◌≡◌, ◌∙◌, ℕ, Bool, true, false, List, [], ◌∷◌, inl, inr, subst}
use Rattle.std.specs.List.{AllByRecursion}
use Rattle.dns_label.specs.Name.{low}
use Rattle.dns_header.specs.Question.{Question}
use Rattle.dns_wire.specs.Suffix.{EndsWith}
use Rattle.zone_records.specs.Record.{Record}
use Rattle.zone_core.specs.Query.{AxfrQuery}
use Rattle.zone_core.specs.Transfer.{AreAnswers, AsksAgain, IsAnswer, IsInZoneOf, IsQuestionOf, IsTransfer, IsTransferred}

-- queries for the same zone with the same ID
pub record AskAlike (query other : AxfrQuery) : Type 0 where
  pub id : query.id ≡ other.id
  pub name : low query.name ≡ low other.name
  pub class : query.class ≡ other.class

module _ (query other : AxfrQuery) (alike : AskAlike query other) where
  question_for_other : (q : Question) → IsQuestionOf query q → IsQuestionOf other q
  question_for_other q is = record { name = is.name ∙ alike.name; qtype = is.qtype; qclass = is.qclass ∙ alike.class }

  asks_other : (first : Bool) (message : List ℕ) (place : ℕ) → AsksAgain query first message place → AsksAgain other first message place
  asks_other first message place (inl bare) = inl bare
  asks_other first message place (inr asks) = inr (asks.0, asks.1, asks.2, question_for_other asks.1 asks.3)

  answer_for_other : (first : Bool) (message : List ℕ) (group : List Record) → IsAnswer query first message group
      → IsAnswer other first message group
  answer_for_other first message group is = record {
    header = record {
      long = is.header.long;
      id = is.header.id ∙ alike.id;
      response = is.header.response;
      opcode = is.header.opcode;
      rcode = is.header.rcode;
      counts = is.header.counts;
    };
    place = is.place;
    asked = asks_other first message is.place is.asked;
    counted = is.counted;
    spelled = is.spelled;
  }

  answers_for_other : (first : Bool) (messages : List (List ℕ)) (groups : List (List Record)) → AreAnswers query first messages groups
      → AreAnswers other first messages groups
  answers_for_other first [] [] are = tt
  answers_for_other first [] (group ∷ groups) are = absurd are
  answers_for_other first (message ∷ messages) [] are = absurd are
  answers_for_other first (message ∷ messages) (group ∷ groups) are =
      (answer_for_other first message group are.0, answers_for_other false messages groups are.1)

  inside_other : (records : List Record) → AllByRecursion (IsInZoneOf query) records → AllByRecursion (IsInZoneOf other) records
  inside_other [] each = tt
  inside_other (r ∷ records) each = (
    record {
      class = each.0.class ∙ alike.class;
      under = subst (λ (apex : List (List ℕ)). EndsWith (low r.owner) apex) alike.name each.0.under;
      spellable = each.0.spellable;
    },
    inside_other records each.1,
  )

  transferred_for_other : (records : List Record) → IsTransferred query records → IsTransferred other records
  transferred_for_other [] is = absurd is
  transferred_for_other (soa ∷ others) is = (is.0, is.1 ∙ alike.name, inside_other (soa ∷ others) is.2, is.3)

  pub transfer_for_other : (stream : List ℕ) (records : List Record) → IsTransfer query stream records → IsTransfer other stream records
  transfer_for_other stream records is = record {
    messages = is.messages;
    each = is.each;
    whole = is.whole;
    groups = is.groups;
    answers = answers_for_other true is.messages is.groups is.answers;
    last = is.last;
    front = is.front;
    last_group = is.last_group;
    splits = is.splits;
    joins = is.joins;
    transferred = transferred_for_other records is.transferred;
    closed = is.closed;
  }
