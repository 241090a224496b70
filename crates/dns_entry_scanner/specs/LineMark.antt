-- Marks of lines in a text.
use Rattle.std.specs.Prelude.{◌≡◌, ◌≤◌, ℕ, List, length}
use Rattle.dns_entry_scanner.specs.Lines.{line_at}
use Rattle.dns_entry_scanner.specs.declared.line_mark.LineMark.{LineMark}

-- the mark is at a place of the text, and its line is that of the place
abbrev pub MarksLine : List ℕ → LineMark → Type 0
MarksLine text mark = (mark.place ≤ length text) × (mark.line ≡ line_at text mark.place)
