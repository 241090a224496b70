use Rattle.std.proofs.Common.{◌≡◌, ap}
use Rattle.dns_name.specs.ParsedName.{labels_of}
use Rattle.dns_header.specs.Header.{question_count}
use Rattle.dns_header.specs.HeaderCounts.{Counts}
use Rattle.dns_header.specs.QuestionParts.{question_of}
use Rattle.dns_sections.specs.Message.{octets_in}
use Rattle.dns_sections.specs.Seen.{questions_at}
use Rattle.dns_sections.proofs.First.{sole-bad}
use Rattle.dns_sections.proofs.message.Message.sole_question.Goals as goal

pub returns-in-Some-clause-err : goal.returns-in-Some-clause-err
returns-in-Some-clause-err g c =
    let message = octets_in g.Octs.Octets.list c.args.self.now in
    let one : question_count (octets_in g.Octs.Octets.list c.args.self.now) ≡ 1 =
    cc (ap (λ (k : Counts). k.qd) c.header_counts.ensures.said, c.qdcount.ensures, c.in-1.is) in
    sole-bad message (questions_at c.question.result) (questions_at c.next.new.self) c.question.ensures (question_of labels_of)
    c.in-Some.question one c.in-Some.ensures.steps
