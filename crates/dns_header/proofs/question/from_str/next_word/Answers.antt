use Rattle.std.specs.Str.Iter.{split_whitespace_rest}
use Rattle.dns_header.proofs.QuestionWords.{first_word}
use Rattle.dns_header.proofs.question.from_str.next_word.Goals as goal

pub returns-clause-some : goal.returns-clause-some
returns-clause-some c =
    first_word _ (split_whitespace_rest c.args.words.now) (split_whitespace_rest c.next.new.self) c.next.result c.next.ensures.steps
