use Rattle.std.proofs.Common.{◌≡◌, ap, subst}
use Rattle.dns_header.specs.Header.{is_response, id_of, question_count}
use Rattle.dns_header.specs.HeaderCounts.{Counts}
use Rattle.dns_header.specs.HeaderFields.{HeaderFields}
use Rattle.dns_sections.specs.Answers.{AskTheSame}
use Rattle.dns_sections.specs.Message.{octets_in}
use Rattle.dns_sections.specs.Questions.{first_question}
use Rattle.dns_sections.specs.Seen.{questions_at}
use Rattle.dns_sections.proofs.message.Message.is_answer.Goals as goal

pub returns-clause-yes : goal.returns-clause-yes
returns-clause-yes g c = λ same. record {
  response = cc (ap (λ (f : HeaderFields). f.qr) c.header-header.ensures.said, c.qr.ensures);
  id = cc (ap (λ (f : HeaderFields). f.id) c.header-header.ensures.said, ap (λ (f : HeaderFields). f.id) c.header.ensures.said);
  count = cc (ap (λ (k : Counts). k.qd) c.header_counts.ensures.said, ap (λ (k : Counts). k.qd) c.header_counts-2.ensures.said);
  questions = subst (λ x. AskTheSame x (first_question (octets_in g.Other.Octets.list c.args.query.now))) c.question.ensures
      (subst (λ y. AskTheSame (questions_at c.question.result) y) c.question-2.ensures (c.asks_the_same.ensures.yes same));
}
