-- What the errors of a row say.
use Rattle.std.specs.Prelude.{Bool, true, false}
use Rattle.dns_entry_scanner.specs.declared.entry_error.EntryError.{EntryError}
use Rattle.dns_entry_scanner.specs.declared.entry_error.EntryError.TheVariants.{Custom, EndOfEntry, OutOfMemory, TrailingTokens}

-- out of memory
abbrev pub is_memory : EntryError → Bool
is_memory (Custom message) = false
is_memory EndOfEntry = false
is_memory TrailingTokens = false
is_memory OutOfMemory = true

-- a token is missing
abbrev pub is_end : EntryError → Bool
is_end (Custom message) = false
is_end EndOfEntry = true
is_end TrailingTokens = false
is_end OutOfMemory = false
