use Rattle.std.proofs.Common.{sym, subst, arith}
use Rattle.dns_fields.proofs.DottedNumbers.{StartsWithOctet, none_without_digit, one_digit, two_of, three_of, none_with_zero, none_with_more, is_read, not_read}
use Rattle.dns_fields.proofs.scan.dotted.split_number.Goals as goal

pub returns-in_default : goal.returns-in_default
returns-in_default c = sym (not_read _ (none_without_digit _ c.in_default.ensures.none))

pub returns-in_default-split_digit : goal.returns-in_default-split_digit
returns-in_default-split_digit c =
    sym (is_read _ _ _ (one_digit _ _ _ c.in-Some.ensures.some c.in_default-split_digit.ensures.none))

pub returns-then-first-eq0 : goal.returns-then-first-eq0
returns-then-first-eq0 c =
    sym (not_read _ (none_with_zero _ _ _ _ _ c.in-Some.ensures.some c.in-Some-split_digit.ensures.some c.if-first-eq0.true))

pub returns-in_default-split_digit-2 : goal.returns-in_default-split_digit-2
returns-in_default-split_digit-2 c =
    let first = c.if-first-eq0.false in
    sym (is_read _ _ _ (two_of _ _ _ _ _ c.in-Some.ensures.some c.in-Some-split_digit.ensures.some (omega arith)
    c.in_default-split_digit-2.ensures.none))

pub returns-then-number-gt255 : goal.returns-then-number-gt255
returns-then-number-gt255 c =
    let tens = c.from.ensures in
    let ones = c.from-2.ensures in
    let more = c.if-number-gt255.true in
    sym (not_read _ (none_with_more _ _ _ _ _ _ _ c.in-Some.ensures.some c.in-Some-split_digit.ensures.some c.in-Some-split_digit-2.ensures.some
    (λ few. absurd (omega arith))))

pub returns-in-Some-split_digit-3 : goal.returns-in-Some-split_digit-3
returns-in-Some-split_digit-3 c =
    sym (not_read _ (none_with_more _ _ _ _ _ _ _ c.in-Some.ensures.some c.in-Some-split_digit.ensures.some c.in-Some-split_digit-2.ensures.some
    (λ few. (c.in-Some-split_digit-3.field-0.0, c.in-Some-split_digit-3.field-0.1.now, c.in-Some-split_digit-3.ensures.some))))

pub returns-in-None : goal.returns-in-None
returns-in-None c =
    let first = c.if-first-eq0.false in
    let tens = c.from.ensures in
    let ones = c.from-2.ensures in
    let most = c.if-number-gt255.false in
    sym (is_read _ _ _ (subst (λ n. StartsWithOctet c.args.text.now n c.in-Some-split_digit-2.last.now) (omega arith)
    (three_of _ _ _ _ _ _ _ c.in-Some.ensures.some c.in-Some-split_digit.ensures.some c.in-Some-split_digit-2.ensures.some
    (omega arith) (omega arith) c.in-None.ensures.none)))
