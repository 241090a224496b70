use Rattle.std.proofs.Common.{◌≡◌, drop}
use Rattle.dns_values.specs.Mnemonic.{text_of, rows_of}
use Rattle.dns_field_texts.proofs.type_words.mnemonic_of.Given as goal

abbrev pub invariant-loop-row : goal.invariant-loop-row
invariant-loop-row l = text_of (rows_of (drop l.row-index l.table)) l.number ≡ text_of (rows_of l.table) l.number
