use Rattle.std.proofs.Common.{List, ℕ, subst}
use Rattle.std.proofs.lemmas.Result.{err_from_is_err_and}
use Rattle.dns_header.specs.QuestionText.{IsBlank}
use Rattle.dns_header.specs.QuestionText.SpellsNoQuestion.{no_name, asks_none}
use Rattle.dns_header.proofs.QuestionWords.{refused_name, word_of}
use Rattle.dns_header.proofs.question.from_str.Question+Name+Octs.from_str.Goals as goal

pub returns-in_default-clause-err : goal.returns-in_default-clause-err
returns-in_default-clause-err g c =
    no_name (subst (λ (text : List ℕ). IsBlank text) c.split_whitespace-words.ensures.rest c.in_default.ensures.none)

pub returns-in_err-qname-clause-err : goal.returns-in_err-qname-clause-err
returns-in_err-qname-clause-err g c =
    let p = err_from_is_err_and c.from_residual.result c.from_residual.ensures.1 in
    let first = word_of c.split_whitespace-words.ensures.rest c.in-Some.ensures.some in
    rw (p.1, p.2) (refused_name _ _ _ _ first c.in_err-qname.ensures.err)

pub returns-in_err-qtype-clause-err : goal.returns-in_err-qtype-clause-err
returns-in_err-qtype-clause-err g c =
    let p = err_from_is_err_and c.from_residual-in_err-qtype.result c.from_residual-in_err-qtype.ensures.1 in
    let first = word_of c.split_whitespace-words.ensures.rest c.in-Some.ensures.some in
    rw (p.1, p.2) (asks_none first c.in_ok-qname.ensures.ok c.in_err-qtype.ensures.err)
