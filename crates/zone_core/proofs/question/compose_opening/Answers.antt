use Rattle.std.proofs.Common.{◌≡◌, ◌++◌, ◌∙◌, append_assoc}
use Rattle.dns_header.specs.Question.{question_octets}
use Rattle.zone_core.specs.Query.{one_question, question_for}
use Rattle.zone_core.proofs.Openings.{counts_one, question_behind}
use Rattle.zone_core.proofs.question.compose_opening.Goals as goal

pub returns-in-Ok : goal.returns-in-Ok
returns-in-Ok c =
    let counts : c.set_qdcount.new.self ≡ one_question =
    counts_one c.new-counts.result c.set_qdcount.new.self c.new-counts.ensures c.set_qdcount.ensures c.counts_are_four_numbers.ensures in
    let header : c.extend_from_slice.new.self.items ≡ c.args.header =
    c.in_ok-extend_from_slice.ensures.items ∙ (λ i. c.in_ok-octets.ensures.items i ++ c.as_slice.ensures.octets i) in
    let front : c.extend_from_slice-2.new.self.items ≡ c.args.header ++ one_question =
    c.in_ok-extend_from_slice-2.ensures.items ∙ (λ i. header i ++ (c.as_slice-2.ensures.octets ∙ counts) i) in
    let name = c.new.ensures.qname ∙ c.for_ref.ensures in
    question_behind _ _ _ c.in-Ok.ensures.ok
    ∙ (λ i. front i ++ question_octets (record { name = name i; qtype = c.new.ensures.qtype i; qclass = c.new.ensures.qclass i }))
    ∙ append_assoc c.args.header one_question (question_octets (question_for c.args.name.now c.args.class))
