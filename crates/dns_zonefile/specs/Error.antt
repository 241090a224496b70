-- What an error of a zone file says.
use Rattle.std.specs.Prelude.{ℕ}
use Rattle.dns_entry_scanner.specs.declared.entry_error.EntryError.{EntryError}
use Rattle.dns_zonefile.specs.declared.error.Error.{Error}

abbrev pub line_of : Error → ℕ
line_of error = error.line

abbrev pub reason_of : Error → EntryError
reason_of error = error.reason
