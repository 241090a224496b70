-- What a reader passes over to go on after a row that was refused (RFC 1035 5.1).
use Rattle.std.specs.Prelude.{◌≡◌, ◌+◌, ℕ, false, true, List}
use Rattle.dns_scan.specs.Token.{Token}
use Rattle.dns_text.specs.Tokens.{Row, is_end}
use Rattle.dns_entry_scanner.specs.Lines.{behind_line}
use Rattle.dns_entry_scanner.specs.RowFound.{NoRow}
use Rattle.dns_zonefile.specs.Reader.{Reader, left_of}

-- this is left behind the text's first row or, where it begins with none, behind its first line
pub data IsPassed (text left : List ℕ) : Type 0 where
  row : (tokens : List Token) → Row false text tokens left → IsPassed text left
  line : NoRow text → left ≡ behind_line text → IsPassed text left

-- The reader passes over a row or a line, which counts as an entry. At the end of the text it stays.
pub data PassesOver (old new : Reader) : Type 0 where
  over : IsPassed (left_of old) (left_of new) → new.text ≡ old.text → new.context ≡ old.context → new.count ≡ old.count + 1
      → PassesOver old new
  ended : is_end (left_of old) ≡ true → new ≡ old → PassesOver old new
