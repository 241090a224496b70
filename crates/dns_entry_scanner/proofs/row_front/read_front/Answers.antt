use Rattle.std.proofs.Common.{◌+◌, ◌<◌, ◌++◌, ◌∷◌, ◌∙◌, [], ap, arith, drop, get_or, rules, subst, sym, length}
use Rattle.dns_text.specs.Rows.{is_led}
use lib.Lanes.{chunk}
use Rattle.std.proofs.lemmas.Simd.{length-chunk}
use Rattle.dns_entry_scanner.specs.BegunRow.{BegunRow}
use Rattle.dns_entry_scanner.specs.RowFound.{IsRowAt}
use Rattle.dns_entry_scanner.specs.declared.row_front.RowFront.{RowFront}
use Rattle.dns_entry_scanner.specs.declared.token_span.TokenSpan.{TokenSpan}
use Rattle.dns_entry_scanner.proofs.RowFronts.{feed_head, front_comment, front_feed, front_gap, front_none, front_spaced, front_word, window}
use Rattle.dns_entry_scanner.proofs.row_front.read_front.Goals as goal

pub loop-at-init : goal.loop-at-init
loop-at-init c = record { within = omega arith; held = λ start held. front_none c.args.place held }

pub loop-at-preserved-in-Go : goal.loop-at-preserved-in-Go
loop-at-preserved-in-Go c = record {
  within = omega arith;
  held = λ start held. front_gap c.in-Go.behind c.args.place c.loop-at.at (omega arith) c.in-Go.ensures (c.loop-at.invariant.held start held);
}

pub loop-at-preserved : goal.loop-at-preserved
loop-at-preserved c =
    let text = c.args.text.now in
    let end = c.line_end.result in record {
      within = omega (arith, c.line_end.ensures.within, c.line_end.ensures.behind);
      held = λ start held. front_comment c.args.place c.loop-at.at end (omega arith) c.in-Comment.ensures c.line_end.ensures.feed
          (omega (arith, c.line_end.ensures.behind)) (c.loop-at.invariant.held start held);
    }

pub returns-then-not-inside-clause-whole : goal.returns-then-not-inside-clause-whole
returns-then-not-inside-clause-whole c =
    λ whole start held. subst (λ (front : RowFront). IsRowAt c.args.text.now start c.loop-at.tokens.items front.place (is_led (drop start c.args.text.now)))
    (sym c.whole.ensures)
    (front_feed (c.args.place + c.loop-at.at) (omega arith) (feed_head c.loop-at.inside (get_or c.args.text.now (c.args.place + c.loop-at.at) 0) (search rules) (search rules)) (c.loop-at.invariant.held start held))

pub bounds-text-place : goal.bounds-text-place
bounds-text-place c =
    let text = c.args.text.now in
    let less = c.word_len-len.ensures.within (chunk c.args.place 64 text) (length-chunk c.args.place 64 text (omega arith)) c.word_ends-ends.ensures in
    omega (arith, less)

pub overflow_add-behind-then-len-gt0 : goal.overflow_add-behind-then-len-gt0
overflow_add-behind-then-len-gt0 c =
    let text = c.args.text.now in
    let less = c.word_len-len.ensures.within (chunk c.args.place 64 text) (length-chunk c.args.place 64 text (omega arith)) c.word_ends-ends.ensures in
    let below : c.args.place + c.loop-at.at + c.word_len-len.result < length text = omega (arith, less) in search rules

pub overflow_add-at : goal.overflow_add-at
overflow_add-at c =
    let text = c.args.text.now in
    let less = c.word_len-len.ensures.within (chunk c.args.place 64 text) (length-chunk c.args.place 64 text (omega arith)) c.word_ends-ends.ensures in
    omega (arith, less)

pub overflow_add-at-then-is_space : goal.overflow_add-at-then-is_space
overflow_add-at-then-is_space c =
    let text = c.args.text.now in
    let less = c.word_len-len.ensures.within (chunk c.args.place 64 text) (length-chunk c.args.place 64 text (omega arith)) c.word_ends-ends.ensures in
    omega (arith, less)

pub overflow_add-at-then-ends_word : goal.overflow_add-at-then-ends_word
overflow_add-at-then-ends_word c =
    let text = c.args.text.now in
    let less = c.word_len-len.ensures.within (chunk c.args.place 64 text) (length-chunk c.args.place 64 text (omega arith)) c.word_ends-ends.ensures in
    omega (arith, less)

pub loop-at-preserved-then-ends_word : goal.loop-at-preserved-then-ends_word
loop-at-preserved-then-ends_word c =
    let text = c.args.text.now in
    let some : 0 < c.word_len-len.result = omega arith in
    let less = c.word_len-len.ensures.within (chunk c.args.place 64 text) (length-chunk c.args.place 64 text (omega arith)) c.word_ends-ends.ensures in
    let word =
    window text c.args.place c.loop-at.at c.word_len-len.result c.word_ends-ends.result (omega arith) c.word_ends-ends.ensures some
    c.word_len-len.ensures.len c.word_len-len.ensures.within in
    let pushed = c.in_ok-push-2.ensures.items ∙ ap (λ (s : TokenSpan). c.loop-at.tokens.items ++ s ∷ []) c.word-then-ends_word.ensures in record {
      within = omega (arith, less);
      held = λ start held. front_word c.args.place c.loop-at.at c.word_len-len.result (omega arith) word some (c.ends_word.ensures c.if-ends_word.true)
          (c.loop-at.invariant.held start held) pushed;
    }

pub loop-at-preserved-then-is_space : goal.loop-at-preserved-then-is_space
loop-at-preserved-then-is_space c =
    let text = c.args.text.now in
    let some : 0 < c.word_len-len.result = omega arith in
    let less = c.word_len-len.ensures.within (chunk c.args.place 64 text) (length-chunk c.args.place 64 text (omega arith)) c.word_ends-ends.ensures in
    let word =
    window text c.args.place c.loop-at.at c.word_len-len.result c.word_ends-ends.result (omega arith) c.word_ends-ends.ensures some
    c.word_len-len.ensures.len c.word_len-len.ensures.within in
    let pushed = c.in_ok-push.ensures.items ∙ ap (λ (s : TokenSpan). c.loop-at.tokens.items ++ s ∷ []) c.word.ensures in record {
      within = omega (arith, less);
      held = λ start held. front_spaced c.args.place c.loop-at.at c.word_len-len.result (omega arith) word some (c.is_space.ensures c.if-is_space.true)
          (c.loop-at.invariant.held start held) pushed;
    }

pub returns-clause-begun : goal.returns-clause-begun
returns-clause-begun c =
    λ part start held. subst (λ (front : RowFront). BegunRow c.args.text.now start c.loop-at.tokens.items front.inside front.place) (sym c.part-2.ensures)
    (c.loop-at.invariant.held start held)
