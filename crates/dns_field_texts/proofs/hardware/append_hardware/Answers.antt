use Rattle.std.proofs.Common.{◌≡◌, length, arith, rules, ap}
use Rattle.std.proofs.lemmas.Bool.Decides.{nat_tests}
use Rattle.std.proofs.lemmas.List.{nil_from_length}
use Rattle.dns_field_texts.proofs.HardwareText.{no_minus, no_pair, no_end, all_read, read_more}
use Rattle.dns_field_texts.proofs.hardware.append_hardware.Goals as goal

pub returns-in_default-clause-err : goal.returns-in_default-clause-err
returns-in_default-clause-err c = λ invalid.
    no_minus c.args.text.now c.args.count c.args.octets.now.items c.loop-index.octets.items c.loop-index.index c.loop-index.left.now c.loop-index.invariant
    c.loop-index-test.true c.in_default.ensures.none

pub returns-in_default-split_pair-clause-err : goal.returns-in_default-split_pair-clause-err
returns-in_default-split_pair-clause-err c = λ invalid.
    no_pair c.args.text.now c.args.count c.args.octets.now.items c.loop-index.octets.items c.loop-index.index c.loop-index.left.now c.loop-index.invariant
    c.in-Some.pair.now c.loop-index-test.true c.in-Some.ensures.some c.in_default-split_pair.ensures.none

pub loop-index-preserved : goal.loop-index-preserved
loop-index-preserved c =
    read_more c.args.text.now c.args.count c.args.octets.now.items c.loop-index.octets.items c.loop-index.index c.loop-index.left.now c.loop-index.invariant
    c.in-Some-split_pair.octet c.in-Some.pair.now c.in-Some-split_pair.behind.now c.push.new.self.items c.loop-index-test.true c.in-Some.ensures.some
    c.in-Some-split_pair.ensures.some c.in-Ok.ensures.items

pub returns-then-is_empty-clause-ok : goal.returns-then-is_empty-clause-ok
returns-then-is_empty-clause-ok c =
    all_read c.args.text.now c.args.count c.args.octets.now.items c.loop-index.octets.items c.loop-index.index c.loop-index.left.now c.loop-index.invariant
    (omega arith) (nil_from_length _ (search rules))

pub returns-else-is_empty-clause-err : goal.returns-else-is_empty-clause-err
returns-else-is_empty-clause-err c = λ invalid.
    no_end c.args.text.now c.args.count c.args.octets.now.items c.loop-index.octets.items c.loop-index.index c.loop-index.left.now c.loop-index.invariant
    (omega arith) (λ none. let h : length c.loop-index.left.now ≡ 0 = ap length none in grind (arith, nat_tests))
