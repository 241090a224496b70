use Rattle.std.proofs.Common.{sym, ◌∙◌, arith}
use Rattle.dns_values.proofs.Words.{number_named-miss}
use Rattle.dns_field_texts.proofs.type_words.number_named.Goals as goal

pub loop-row-preserved : goal.loop-row-preserved
loop-row-preserved c =
    sym (number_named-miss c.args.table.now c.args.word.now c.loop-row.row-index _ (omega arith)
    c.if-is_named_by.ensures.1)
    ∙ c.loop-row.invariant
