use Rattle.std.proofs.Common.{◌≡◌, drop}
use Rattle.dns_values.specs.Mnemonic.{number_named, rows_of}
use Rattle.dns_field_texts.proofs.type_words.number_named.Given as goal

abbrev pub invariant-loop-row : goal.invariant-loop-row
invariant-loop-row l = number_named (rows_of (drop l.row-index l.table)) l.word ≡ number_named (rows_of l.table) l.word
