use Rattle.std.proofs.Common.{◌≡◌, ◌++◌, length, drop, refl, ◌∙◌, ap, arith, length-append}
use Rattle.std.proofs.lemmas.List.{drop_at}
use Rattle.dns_header.specs.Question.{question_octets}
use Rattle.dns_header.proofs.WrittenQuestions.{question-written}
use Rattle.dns_header.proofs.laws.questions_in_full_are_read.Goals as goal

pub returns : goal.returns
returns c = λ message front rest q name qtype qclass is.
    let written = question_octets q ++ rest in
    let at : drop (length front) message ≡ written = ap (drop (length front)) is ∙ drop_at front written (length front) refl in
    question-written message (length front) q rest at (omega (arith, ap length is, length-append front written)) name qtype qclass
