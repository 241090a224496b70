use Rattle.std.proofs.Common.{◌≡◌, ℕ, ◌++◌, List, length, drop, refl, sym, ap, ◌∙◌, subst}
use Rattle.std.proofs.lemmas.List.{nil_from_length, take_rest}
use Rattle.std.proofs.lemmas.Result.{err_from_is_err_and}
use Rattle.zone_receive.specs.Asked.{asked_of}
use Rattle.zone_core.proofs.Flags.{none_of}
use Rattle.zone_receive.proofs.Judging.{answer_breaks, answer_ends, answer_goes, framed_alone, framed_message, result_breaks, result_ends, result_goes}
use Rattle.zone_receive.proofs.frame_buffer.FrameBuffer.judge.Goals as goal

pub returns-then-is_empty-clause-goes_on : goal.returns-then-is_empty-clause-goes_on
returns-then-is_empty-clause-goes_on c =
    let framed = c.requires.framed in
    let none = nil_from_length c.args.self.now.open_frame.items (sym (ap (length {A = ℕ}) c.as_slice.ensures.value) ∙ none_of _ _ c.is_empty.ensures c.if-is_empty.true) in
    let alone = take_rest c.args.rest.now 2 ∙ framed_alone c.args.self.now.open_frame.items c.args.rest.now framed none in
    result_goes c.judge_message.result c.args.self.now _ (asked_of c.args.query.now) c.args.rest.now _ framed alone none refl
    c.judge_message.ensures.ok c.judge_message.ensures.known

pub returns-then-is_empty-clause-ends : goal.returns-then-is_empty-clause-ends
returns-then-is_empty-clause-ends c =
    let framed = c.requires.framed in
    let none = nil_from_length c.args.self.now.open_frame.items (sym (ap (length {A = ℕ}) c.as_slice.ensures.value) ∙ none_of _ _ c.is_empty.ensures c.if-is_empty.true) in
    let alone = take_rest c.args.rest.now 2 ∙ framed_alone c.args.self.now.open_frame.items c.args.rest.now framed none in
    result_ends c.judge_message.result c.args.self.now _ (asked_of c.args.query.now) c.args.rest.now _ framed alone none
    c.judge_message.ensures.ok c.judge_message.ensures.known

pub returns-then-is_empty-clause-err : goal.returns-then-is_empty-clause-err
returns-then-is_empty-clause-err c =
    let framed = c.requires.framed in
    let none = nil_from_length c.args.self.now.open_frame.items (sym (ap (length {A = ℕ}) c.as_slice.ensures.value) ∙ none_of _ _ c.is_empty.ensures c.if-is_empty.true) in
    let alone = take_rest c.args.rest.now 2 ∙ framed_alone c.args.self.now.open_frame.items c.args.rest.now framed none in
    result_breaks c.judge_message.result c.args.self.now (asked_of c.args.query.now) c.args.rest.now _ framed alone c.judge_message.ensures.err

pub returns-in_err-ends-clause-err : goal.returns-in_err-ends-clause-err
returns-in_err-ends-clause-err c =
    let framed = c.requires.framed in
    let whole = c.as_slice-2.ensures.value ∙ c.in_ok-extend_from_slice.ensures.items in
    let P : List ℕ → Type 0 = λ octets. drop 2 octets ≡ framed.message in
    let message = take_rest c.as_slice-2.result.now 2 ∙ subst P (sym whole) (framed_message (c.args.self.now.open_frame.items ++ c.args.rest.now) framed) in
    let p = err_from_is_err_and c.from_residual-in_err-ends.result c.from_residual-in_err-ends.ensures.1 in
    rw (p.1, p.2) (answer_breaks c.args.self.now (asked_of c.args.query.now) c.args.rest.now _ framed _ message c.in_err-ends.ensures.err)

pub returns-clause-goes_on : goal.returns-clause-goes_on
returns-clause-goes_on c =
    let framed = c.requires.framed in
    let whole = c.as_slice-2.ensures.value ∙ c.in_ok-extend_from_slice.ensures.items in
    let P : List ℕ → Type 0 = λ octets. drop 2 octets ≡ framed.message in
    let message = take_rest c.as_slice-2.result.now 2 ∙ subst P (sym whole) (framed_message (c.args.self.now.open_frame.items ++ c.args.rest.now) framed) in
    answer_goes c.in_ok-ends.ends c.args.self.now _ (asked_of c.args.query.now) c.args.rest.now _ framed message c.clear.ensures.items refl
    c.in_ok-ends.ensures.ok c.in_ok-ends.ensures.known

pub returns-clause-ends : goal.returns-clause-ends
returns-clause-ends c =
    let framed = c.requires.framed in
    let whole = c.as_slice-2.ensures.value ∙ c.in_ok-extend_from_slice.ensures.items in
    let P : List ℕ → Type 0 = λ octets. drop 2 octets ≡ framed.message in
    let message = take_rest c.as_slice-2.result.now 2 ∙ subst P (sym whole) (framed_message (c.args.self.now.open_frame.items ++ c.args.rest.now) framed) in
    answer_ends c.in_ok-ends.ends c.args.self.now _ (asked_of c.args.query.now) c.args.rest.now _ framed message c.clear.ensures.items
    c.in_ok-ends.ensures.ok c.in_ok-ends.ensures.known
