-- The view of a reader of rows: a text, the rest of it, and whether that is inside parentheses.
use Rattle.std.specs.Prelude.{ℕ, Bool, List, drop}
use Rattle.dns_entry_scanner.specs.declared.row_reader.RowReader.{RowReader}

abbrev pub text_of : RowReader → List ℕ
text_of reader = reader.text.now

abbrev pub left_of : RowReader → List ℕ
left_of reader = drop reader.place reader.text.now

abbrev pub is_inside : RowReader → Bool
is_inside reader = reader.inside
