use Rattle.std.proofs.Common.{ℕ, ◌≡◌, rules, arith, ◌∙◌, ap}
use Rattle.dns_octets.specs.Parser.{octets_of, place_of}
use Rattle.dns_header.specs.Question.{Question, ReadsQuestion}
use Rattle.dns_header.proofs.Questions.{no_question}
use Rattle.dns_header.proofs.question.read.Question+ParsedName+ref+slice+u8.parse.Goals as goal

pub returns-in_err-parse_u16_be-clause-no_question : goal.returns-in_err-parse_u16_be-clause-no_question
returns-in_err-parse_u16_be-clause-no_question c =
    let none : (q : Question) (next : ℕ) → ReadsQuestion (octets_of c.args.parser.now) (place_of c.args.parser.now) q next → ⊥ =
    no_question _ _ _ _ _ _ c.in_ok-qname.ensures.ok c.parse.ensures.same (omega arith) c.in_err-parse_u16_be.ensures.enough.1 in
    search rules

pub returns-in_err-parse_u16_be-2-clause-no_question : goal.returns-in_err-parse_u16_be-2-clause-no_question
returns-in_err-parse_u16_be-2-clause-no_question c =
    let on = c.in_ok-parse_u16_be.ensures.place in
    let same : octets_of c.parse_u16_be.new.self ≡ octets_of c.args.parser.now = ap (λ octets. octets.now) on.octets ∙ c.parse.ensures.same in
    let none : (q : Question) (next : ℕ) → ReadsQuestion (octets_of c.args.parser.now) (place_of c.args.parser.now) q next → ⊥ =
    no_question _ _ _ _ _ _ c.in_ok-qname.ensures.ok same (omega (arith, on.place)) c.in_err-parse_u16_be-2.ensures.enough.1 in
    search rules
