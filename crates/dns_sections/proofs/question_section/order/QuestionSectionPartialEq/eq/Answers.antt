use Rattle.std.proofs.Common.{◌≡◌, Bool, true, false, refl}
use Rattle.std.specs.Bool.{one_answer}
use Rattle.dns_sections.specs.Answers.{AskTheSame}
use Rattle.dns_sections.specs.DecidedQuestions.{asks_decided}
use Rattle.dns_sections.specs.Seen.{questions_at}
use Rattle.dns_sections.proofs.question_section.order.QuestionSectionPartialEq.eq.Goals as goal

so_true : {P : Type 0} (result : Bool) → (result ≡ false → P → ⊥) → P → result ≡ true
so_true true never fact = refl
so_true false never fact = absurd (never refl fact)

pub returns : goal.returns
returns c =
    one_answer c.asks_the_same.result _
    (c.asks_the_same.ensures.yes, so_true {P = AskTheSame (questions_at c.args.self.now) (questions_at c.args.other.now)} _ c.asks_the_same.ensures.no)
    (asks_decided (questions_at c.args.self.now) (questions_at c.args.other.now))
