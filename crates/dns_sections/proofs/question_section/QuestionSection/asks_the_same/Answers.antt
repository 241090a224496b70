use Rattle.std.proofs.Common.{◌≡◌, ◌∙◌, ◌-◌, ◌<◌, Ok, ap, arith}
use Rattle.dns_name.specs.ParsedName.{labels_of}
use Rattle.dns_header.specs.QuestionParts.{question_of}
use Rattle.dns_sections.specs.Seen.{questions_at}
use Rattle.dns_sections.proofs.SameQuestions.{same-ends, same-left, one-unread, other-unread, same-back, same-on, one-less, not-false, not-true}
use Rattle.dns_sections.proofs.question_section.QuestionSection.asks_the_same.Goals as goal

pub returns-then-left-others-clause-no : goal.returns-then-left-others-clause-no
returns-then-left-others-clause-no c = λ refused same.
    let left : c.in-Ok.left ≡ c.in-Ok-left.others =
    cc (same-left same, c.left.ensures, c.left-2.ensures, c.in-Ok.is, c.in-Ok-left.is) in
    omega (arith, left)

pub returns-in_default-next_read-clause-no : goal.returns-in_default-next_read-clause-no
returns-in_default-next_read-clause-no c = λ refused same.
    let some : 0 < c.in-Ok.left - c.loop.counter = omega arith in
    one-unread c.loop.invariant.left some c.in_default-next_read.ensures.none (c.loop.invariant.forth same)

pub returns-in_default-next_read-2-clause-no : goal.returns-in_default-next_read-2-clause-no
returns-in_default-next_read-2-clause-no c = λ refused same.
    let some : 0 < c.in-Ok.left - c.loop.counter = omega arith in
    other-unread c.loop.invariant.others some c.in_default-next_read-2.ensures.none (c.loop.invariant.forth same)

pub returns-then-ne-clause-no : goal.returns-then-ne-clause-no
returns-then-ne-clause-no c = λ refused same.
    not-true _ c.if-ne.ensures (same-on {one = questions_at c.loop.self} {other = questions_at c.loop.other}
    {behind = questions_at c.next_read.new.self} {beyond = questions_at c.next_read-in-loop.new.self}
    {question = question_of labels_of c.in-Some.question} {asked = question_of labels_of c.in-Some-next_read.asked}
    c.in-Some.ensures.some c.in-Some-next_read.ensures.some (c.loop.invariant.forth same)).0

pub loop-preserved : goal.loop-preserved
loop-preserved c =
    let alike = not-false _ c.if-ne.ensures in record {
      left = one-less c.in-Ok.left c.loop.counter (questions_at c.loop.self) (questions_at c.next_read.new.self) (question_of labels_of c.in-Some.question)
          c.in-Some.ensures.some c.loop.invariant.left;
      others = one-less c.in-Ok.left c.loop.counter (questions_at c.loop.other) (questions_at c.next_read-in-loop.new.self)
          (question_of labels_of c.in-Some-next_read.asked) c.in-Some-next_read.ensures.some c.loop.invariant.others;
      back = λ rest. c.loop.invariant.back (same-back {one = questions_at c.loop.self} {other = questions_at c.loop.other}
          {behind = questions_at c.next_read.new.self} {beyond = questions_at c.next_read-in-loop.new.self}
          {question = question_of labels_of c.in-Some.question} {asked = question_of labels_of c.in-Some-next_read.asked}
          c.in-Some.ensures.some c.in-Some-next_read.ensures.some alike rest);
      forth = λ same. (same-on {one = questions_at c.loop.self} {other = questions_at c.loop.other}
          {behind = questions_at c.next_read.new.self} {beyond = questions_at c.next_read-in-loop.new.self}
          {question = question_of labels_of c.in-Some.question} {asked = question_of labels_of c.in-Some-next_read.asked}
          c.in-Some.ensures.some c.in-Some-next_read.ensures.some (c.loop.invariant.forth same)).1;
    }

pub returns-clause-yes : goal.returns-clause-yes
returns-clause-yes c = λ done.
    let none : c.in-Ok.left - c.loop.counter ≡ 0 = omega arith in
    c.loop.invariant.back (same-ends (c.loop.invariant.left ∙ ap (λ n. Ok n) none) (c.loop.invariant.others ∙ ap (λ n. Ok n) none))
