use Rattle.std.proofs.Common.{ℕ, rules}
use Rattle.dns_octets.specs.Parser.{octets_of, place_of}
use Rattle.dns_header.specs.Question.{SkipsQuestion}
use Rattle.dns_header.proofs.Questions.{nothing_to_skip}
use Rattle.dns_header.proofs.question.read.Question+unit.skip.Goals as goal

pub returns-in_err-advance-clause-no_question : goal.returns-in_err-advance-clause-no_question
returns-in_err-advance-clause-no_question c =
    let none : (next : ℕ) → SkipsQuestion (octets_of c.args.parser.now) (place_of c.args.parser.now) next → ⊥ =
    nothing_to_skip _ _ _ _ c.in_ok-skip.ensures.ok c.skip.ensures.same c.in_err-advance.ensures.enough.1 in
    search rules
