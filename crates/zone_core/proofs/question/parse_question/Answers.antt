use Rattle.std.proofs.Common.{◌≡◌, ℕ, List, ap, sym, subst, ◌∙◌}
use Rattle.dns_name.specs.Parser.{octets_of, place_of}
use Rattle.dns_header.specs.Question.{ReadsQuestion}
use Rattle.zone_core.proofs.question.parse_question.Goals as goal

pub returns-in-Err-clause-err : goal.returns-in-Err-clause-err
returns-in-Err-clause-err c = λ q next reads.
    let seeks = c.in_ok-seek.ensures.ok in
    let same : octets_of c.seek.new.self ≡ c.args.message.now = ap (λ b. b.now) seeks.0 ∙ c.from_ref-parser.ensures.octets in
    let here = subst (λ (p : ℕ). ReadsQuestion c.args.message.now p q next) (sym seeks.1) reads in
    c.in-Err.ensures.no_question q next (subst (λ (m : List ℕ). ReadsQuestion m (place_of c.seek.new.self) q next) (sym same) here)
