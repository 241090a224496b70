use Rattle.std.proofs.Common.{◌+◌, arith}
use Rattle.dns_entry_scanner.proofs.RowFronts.{four_masks, mask_less}
use Rattle.dns_entry_scanner.proofs.row_front.word_ends.Goals as goal

pub overflow_mul-result : goal.overflow_mul-result
overflow_mul-result c = omega (arith, c.may_end_word-second.ensures, mask_less c.args.text.now (c.args.place + 16) (omega arith))

pub overflow_add-result : goal.overflow_add-result
overflow_add-result c =
    omega (
      arith,
      c.may_end_word-first.ensures,
      mask_less c.args.text.now c.args.place (omega arith),
      c.may_end_word-second.ensures,
      mask_less c.args.text.now (c.args.place + 16) (omega arith),
    )

pub overflow_mul-result-2 : goal.overflow_mul-result-2
overflow_mul-result-2 c = omega (arith, c.may_end_word-third.ensures, mask_less c.args.text.now (c.args.place + 32) (omega arith))

pub overflow_add-result-2 : goal.overflow_add-result-2
overflow_add-result-2 c =
    omega (
      arith,
      c.may_end_word-first.ensures,
      mask_less c.args.text.now c.args.place (omega arith),
      c.may_end_word-second.ensures,
      mask_less c.args.text.now (c.args.place + 16) (omega arith),
      c.may_end_word-third.ensures,
      mask_less c.args.text.now (c.args.place + 32) (omega arith),
    )

pub overflow_mul-result-3 : goal.overflow_mul-result-3
overflow_mul-result-3 c = omega (arith, c.may_end_word-fourth.ensures, mask_less c.args.text.now (c.args.place + 48) (omega arith))

pub overflow_add-result-3 : goal.overflow_add-result-3
overflow_add-result-3 c =
    omega (
      arith,
      c.may_end_word-first.ensures,
      mask_less c.args.text.now c.args.place (omega arith),
      c.may_end_word-second.ensures,
      mask_less c.args.text.now (c.args.place + 16) (omega arith),
      c.may_end_word-third.ensures,
      mask_less c.args.text.now (c.args.place + 32) (omega arith),
      c.may_end_word-fourth.ensures,
      mask_less c.args.text.now (c.args.place + 48) (omega arith),
    )

pub returns : goal.returns
returns c =
    omega (
      arith,
      four_masks c.args.text.now c.args.place c.requires,
      c.may_end_word-first.ensures,
      c.may_end_word-second.ensures,
      c.may_end_word-third.ensures,
      c.may_end_word-fourth.ensures,
    )
